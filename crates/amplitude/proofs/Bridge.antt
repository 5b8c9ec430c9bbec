-- Two lists against one. The diagonal amplitude at input v is that of output v, from input v, of the first list followed by the
-- inverse of the second. It alone decides whether a power of ω carries column v of the first list to that of the second, and which.
-- Assumes nothing.
use mathlib.Core.Path.{◌≡◌, sym, ◌∙◌, ap, fun_ext}
use mathlib.Core.Logic.{◌↔◌}
use mathlib.Core.List.{List, ◌++◌}
use Prim.Native.Nat.{ℕ, ◌+◌, ◌-◌, ◌%◌, ◌^◌, ◌<◌}
use native.Mathlib.Nat.{add_comm, add_assoc, zero-add}
use native.Mathlib.Decide.{dec_lt, ℕ_discrete}
use native.Mathlib.Omega.{arith}
use lib.Pow.{pow_pos, pow-lt}
use Rattle.record_format.specs.Gate.{Gate, AllWithin, inverse_list}
use Rattle.record_format.proofs.GateLaws.{within_append, within_inverse}
use Rattle.amplitude.specs.Number.{Zω, 0ω, 1ω, ω^, √2^}
use Rattle.amplitude.specs.Circuit.{State, basis, run, column, h_gates, Fits}
use Rattle.amplitude.proofs.NumberLaws.{ω^-0ω, ω^_cong, ω^_undo, ω^_unique, √2^-0ω, √2^-ω^, √2^-add, √2^_cancel}
use Rattle.amplitude.proofs.Norm.{norm, norm_ω^, norm_zero, norm_0ω, norm_power}
use Rattle.amplitude.proofs.Linear.{run-ω^, run-√2^, run-append, tally-append, h_gates-inverse}
use Rattle.amplitude.proofs.Outside.{Outside, basis_same, basis_other, column_outside}
use Rattle.amplitude.proofs.Inverse.{undo, redo}
use Rattle.amplitude.proofs.Total.{total, total_rest, column_norm}

-- a power of √2 on both sides cancels, past a power of ω
cancel_√2^ : (j p q h : ℕ) (x y : Zω) → ω^ j (√2^ (p + h) x) ≡ √2^ (q + h) y → ω^ j (√2^ p x) ≡ √2^ q y
cancel_√2^ j p q h x y e =
    √2^_cancel h (ω^ j (√2^ p x)) (√2^ q y)
    (√2^-ω^ h j (√2^ p x) ∙ ap (ω^ j) (moved p x) ∙ e ∙ sym (moved q y))
  where
    moved : (m : ℕ) (z : Zω) → √2^ h (√2^ m z) ≡ √2^ (m + h) z
    moved m z = sym (√2^-add h m z) ∙ ap (λ k. √2^ k z) (add_comm h m)

-- powers of 2 tell exponents apart
pow_injective : (i j : ℕ) → 2 ^ i ≡ 2 ^ j → i ≡ j
pow_injective i j e = go (dec_lt i j) (dec_lt j i)
  where
    go : Dec (i < j) → Dec (j < i) → i ≡ j
    go (yes less) more = absurd (omega (arith, pow-lt less))
    go (no less) (yes more) = absurd (omega (arith, pow-lt more))
    go (no less) (no more) = omega arith

-- the first list followed by the second's inverse runs the inverse on the first list's column
column-miter : (first second : List Gate) (v : ℕ) → column (first ++ inverse_list second) v ≡ run (inverse_list second) (column first v)
unfolding column
column-miter first second v = run-append first (inverse_list second) (basis v)

-- states that are equal but for powers of ω and √2 are so after a list too
run_scaled : (gs : List Gate) (j p q : ℕ) (φ ψ : State) → ((w : ℕ) → ω^ j (√2^ p (φ w)) ≡ √2^ q (ψ w)) →
    (w : ℕ) → ω^ j (√2^ p (run gs φ w)) ≡ √2^ q (run gs ψ w)
run_scaled gs j p q φ ψ e w =
    rw (run-ω^ j gs (λ u. √2^ p (φ u)), run-√2^ p gs φ, run-√2^ q gs ψ) at (ap (λ χ. run gs χ w) (fun_ext e))

-- a state whose sizes below 2^n add up to its size at v, and that is 0 from 2^n on, is 0 but at v
only_at : (n : ℕ) (ψ : State) (v : ℕ) → v < 2 ^ n → Outside n ψ → total n (λ w. norm (ψ w)) ≡ norm (ψ v) →
    (w : ℕ) → (w ≡ v → ⊥) → ψ w ≡ 0ω
only_at n ψ v b outside sizes w ne = go (dec_lt w (2 ^ n))
  where
    go : Dec (w < 2 ^ n) → ψ w ≡ 0ω
    go (yes below) = norm_zero (ψ w) (total_rest n (λ u. norm (ψ u)) v b sizes w below ne)
    go (no above) = outside w (omega arith)

-- an ω^j that carries column v turns the diagonal amplitude into √2 once for each H gate of the two lists
pub fits_turned : (n : ℕ) (first second : List Gate) (v j : ℕ) → AllWithin n first → AllWithin n second → v < 2 ^ n →
    Fits n j first second v → ω^ j (column (first ++ inverse_list second) v v) ≡ √2^ (h_gates first + h_gates second) 1ω
unfolding √2^ column
fits_turned n first second v j l r b fits =
    rw column-miter
    (cancel_√2^ j 0 (h_gates first + h_gates second) (h_gates second) (run (inverse_list second) (column first v) v) 1ω
    (rw (zero-add, add_assoc, √2^-add (h_gates first)) (inverted ∙ rw (undo n second (basis v) r, basis_same))))
  where
    everywhere : (w : ℕ) → Dec (w < 2 ^ n) → ω^ j (√2^ (h_gates second) (column first v w)) ≡ √2^ (h_gates first) (column second v w)
    everywhere w (yes below) = fits w below
    everywhere w (no above) =
        rw (column_outside n first v w l b (omega arith), column_outside n second v w r b (omega arith)) (simp (√2^-0ω, ω^-0ω))

    inverted : ω^ j (√2^ (h_gates second) (run (inverse_list second) (column first v) v))
        ≡ √2^ (h_gates first) (run (inverse_list second) (column second v) v)
    inverted =
        run_scaled (inverse_list second) j (h_gates second) (h_gates first) (column first v) (column second v)
        (λ w. everywhere w (dec_lt w (2 ^ n))) v

-- an ω^j that does so carries column v: the diagonal amplitude has all the size there is, so that every other is 0
pub turned_fits : (n : ℕ) (first second : List Gate) (v j : ℕ) → AllWithin n first → AllWithin n second → v < 2 ^ n →
    ω^ j (column (first ++ inverse_list second) v v) ≡ √2^ (h_gates first + h_gates second) 1ω → Fits n j first second v
unfolding ω^ √2^ column
turned_fits n first second v j l r b e w below =
    cancel_√2^ j (h_gates second) (h_gates first) (h_gates second) (column first v w) (column second v w)
    (rw (column-miter, redo n second (column first v) r) at
    (run_scaled second j 0 (h_gates first + h_gates second) (column miter v) (basis v) (λ u. everywhere u (ℕ_discrete u v)) w))
  where
    miter : List Gate
    miter = first ++ inverse_list second

    within : AllWithin n miter
    within = within_append n first (inverse_list second) l (within_inverse n second r)

    sizes : total n (λ u. norm (column miter v u)) ≡ norm (column miter v v)
    sizes =
        column_norm n miter v within b
        ∙ rw (tally-append, h_gates-inverse) (sym (norm_power (h_gates first + h_gates second) 0))
        ∙ ap norm (sym e)
        ∙ norm_ω^ j (column miter v v)

    everywhere : (u : ℕ) → Dec (u ≡ v) → ω^ j (column miter v u) ≡ √2^ (h_gates first + h_gates second) (basis v u)
    everywhere u (yes at) = rw (at, basis_same) e
    everywhere u (no off) =
        rw (only_at n (column miter v) v b (λ x above. column_outside n miter v x within b above) sizes u off, basis_other v u off)
        (simp (√2^-0ω, ω^-0ω))

-- where the diagonal amplitude is ω^k, but for √2 once for each H gate, ω^(8 − k) carries column v
pub diagonal_fits : (n : ℕ) (first second : List Gate) (v k : ℕ) → AllWithin n first → AllWithin n second → v < 2 ^ n →
    column (first ++ inverse_list second) v v ≡ √2^ (h_gates first + h_gates second) (ω^ k 1ω) → Fits n ((8 - k % 8) % 8) first second v
diagonal_fits n first second v k l r b e =
    turned_fits n first second v ((8 - k % 8) % 8) l r b (rw (e, √2^-ω^) (ω^_undo k (√2^ (h_gates first + h_gates second) 1ω)))

-- where ω^j carries column v, the diagonal amplitude is ω^(8 − j), but for √2 once for each H gate
pub fits_diagonal : (n : ℕ) (first second : List Gate) (v j : ℕ) → AllWithin n first → AllWithin n second → v < 2 ^ n →
    Fits n j first second v → column (first ++ inverse_list second) v v ≡ √2^ (h_gates first + h_gates second) (ω^ ((8 - j % 8) % 8) 1ω)
fits_diagonal n first second v j l r b fits =
    sym (ω^_undo j (column (first ++ inverse_list second) v v)) ∙ rw (fits_turned n first second v j l r b fits, √2^-ω^)

-- so the diagonal amplitude is ω^k, but for these √2, exactly where ω^(8 − k) carries column v
pub bridge : (n : ℕ) (first second : List Gate) (v k : ℕ) → AllWithin n first → AllWithin n second → v < 2 ^ n →
    (column (first ++ inverse_list second) v v ≡ √2^ (h_gates first + h_gates second) (ω^ k 1ω)) ↔ Fits n ((8 - k % 8) % 8) first second v
bridge n first second v k l r b = (diagonal_fits n first second v k l r b, back)
  where
    back : Fits n ((8 - k % 8) % 8) first second v →
        column (first ++ inverse_list second) v v ≡ √2^ (h_gates first + h_gates second) (ω^ k 1ω)
    back fits =
        fits_diagonal n first second v ((8 - k % 8) % 8) l r b fits
        ∙ ap (√2^ (h_gates first + h_gates second)) (ω^_cong ((8 - (8 - k % 8) % 8 % 8) % 8) k 1ω (omega arith))

-- where some power of ω carries column v, the diagonal amplitude has the size 2^h, h the number of H gates
diagonal_norm : (n : ℕ) (first second : List Gate) (v j : ℕ) → AllWithin n first → AllWithin n second → v < 2 ^ n →
    Fits n j first second v → norm (column (first ++ inverse_list second) v v) ≡ 2 ^ (h_gates first + h_gates second)
diagonal_norm n first second v j l r b fits = rw (fits_diagonal n first second v j l r b fits) (norm_power _ _)

-- so it is not 0
pub zero_diagonal : (n : ℕ) (first second : List Gate) (v j : ℕ) → AllWithin n first → AllWithin n second → v < 2 ^ n →
    column (first ++ inverse_list second) v v ≡ 0ω → Fits n j first second v → ⊥
zero_diagonal n first second v j l r b e fits =
    omega (arith, norm_0ω, ap norm e, diagonal_norm n first second v j l r b fits, pow_pos (h_gates first + h_gates second))

-- and where it is a power of ω times one of √2, that one is √2 once for each H gate
pub size_diagonal : (n : ℕ) (first second : List Gate) (v j m : ℕ) (k : ℕ) → AllWithin n first → AllWithin n second → v < 2 ^ n →
    column (first ++ inverse_list second) v v ≡ √2^ m (ω^ k 1ω) → Fits n j first second v → m ≡ h_gates first + h_gates second
size_diagonal n first second v j m k l r b e fits =
    pow_injective m (h_gates first + h_gates second) (sym (norm_power m k) ∙ ap norm (sym e) ∙ diagonal_norm n first second v j l r b fits)

-- at most one power of ω carries column v
pub fits_unique : (n : ℕ) (first second : List Gate) (v i j : ℕ) → AllWithin n first → AllWithin n second → v < 2 ^ n →
    Fits n i first second v → Fits n j first second v → i % 8 ≡ j % 8
fits_unique n first second v i j l r b one other =
    ω^_unique i j (column (first ++ inverse_list second) v v) (λ e. zero_diagonal n first second v i l r b e one)
    (fits_turned n first second v i l r b one ∙ sym (fits_turned n first second v j l r b other))
