-- Sums over path variables. A variable takes both its values by a flip, so a sum over variables adds a function's values at
-- every flip of them. Sums are linear, their variables may stand in any order, and a pinned variable drops out.
-- Assumes nothing.
use mathlib.Core.Path.{◌≡◌, refl, sym, ◌∙◌, ap, ap₂, fun_ext}
use mathlib.Core.Bool.{Bool, true, false, not}
use mathlib.Core.List.{List, [], ◌∷◌, ◌++◌}
use Prim.Native.Nat.{ℕ, ◌<◌, ◌≤◌}
use native.Mathlib.Omega.{arith}
use borrow.Author.Tests.{eq-eqb, ne_eqb}
use Rattle.amplitude.specs.Number.{Zω, 0ω, ◌+ω◌, ω^, √2^}
use Rattle.amplitude.specs.Bits.{bit, flip}
use Rattle.amplitude.proofs.NumberLaws.{+ω_idl, +ω_idr, +ω_swap}
use Rattle.amplitude.proofs.BitLaws.{bit-flip_other, flip_comm}
use Rattle.amplitude.proofs.Linear.{Linear, linear_ω^, linear_√2^}
use Rattle.phase_sum_meaning.specs.Sets.{without, Among, here, there}
use Rattle.phase_sum_meaning.specs.Meaning.{both, sum_over}
use Rattle.phase_sum_meaning.proofs.VariableLaws.{Rising, without_absent}

-- a sum of values mapped by a linear map
pub sum_over_linear : (f : Zω → Zω) → Linear f → (zs : List ℕ) (F : ℕ → Zω) (x : ℕ) → sum_over zs (λ y. f (F y)) x ≡ f (sum_over zs F x)
unfolding sum_over both
sum_over_linear f l [] F x = refl
sum_over_linear f l (z ∷ zs) F x =
    ap (λ (G : ℕ → Zω). sum_over zs G x) (fun_ext (λ y. sym (l.sum (F y) (F (flip z y))))) ∙ sum_over_linear f l zs (both z F) x

-- a sum of values times a power of ω
pub sum_over-ω^ : (k : ℕ) (zs : List ℕ) (F : ℕ → Zω) (x : ℕ) → sum_over zs (λ y. ω^ k (F y)) x ≡ ω^ k (sum_over zs F x)
sum_over-ω^ k zs F x = sum_over_linear (ω^ k) (linear_ω^ k) zs F x

-- a sum of values times a power of √2
pub sum_over-√2^ : (k : ℕ) (zs : List ℕ) (F : ℕ → Zω) (x : ℕ) → sum_over zs (λ y. √2^ k (F y)) x ≡ √2^ k (sum_over zs F x)
sum_over-√2^ k zs F x = sum_over_linear (√2^ k) (linear_√2^ k) zs F x

-- a sum of sums of two values
pub sum_over-+ω : (zs : List ℕ) (F G : ℕ → Zω) (x : ℕ) → sum_over zs (λ y. F y +ω G y) x ≡ sum_over zs F x +ω sum_over zs G x
unfolding sum_over both
sum_over-+ω [] F G x = refl
sum_over-+ω (z ∷ zs) F G x =
    ap (λ (D : ℕ → Zω). sum_over zs D x) (fun_ext (λ y. +ω_swap (F y) (G y) (F (flip z y)) (G (flip z y))))
    ∙ sum_over-+ω zs (both z F) (both z G) x

-- a sum of zeros
pub sum_over_zero : (zs : List ℕ) (x : ℕ) → sum_over zs (λ y. 0ω) x ≡ 0ω
unfolding sum_over both
sum_over_zero [] x = refl
sum_over_zero (z ∷ zs) x = ap (λ (G : ℕ → Zω). sum_over zs G x) (fun_ext (λ y. +ω_idl 0ω)) ∙ sum_over_zero zs x

-- two variables may be added over in either order
pub both_both : (y z : ℕ) (F : ℕ → Zω) → both y (both z F) ≡ both z (both y F)
unfolding both
both_both y z F = fun_ext (λ x. rw (flip_comm z y x) (+ω_swap (F x) (F (flip z x)) (F (flip y x)) (F (flip y (flip z x)))))

-- a variable at the end of the list
pub sum_over_snoc : (zs : List ℕ) (z : ℕ) (F : ℕ → Zω) → sum_over (zs ++ z ∷ []) F ≡ sum_over zs (both z F)
unfolding sum_over
sum_over_snoc [] z F = refl
sum_over_snoc (y ∷ zs) z F = sum_over_snoc zs z (both y F) ∙ ap (sum_over zs) (both_both z y F)

-- a variable of the list may be added over first
pub sum_over-without : (z : ℕ) (zs : List ℕ) (F : ℕ → Zω) → Rising zs → Among z zs → sum_over zs F ≡ sum_over (without z zs) (both z F)
unfolding sum_over without
sum_over-without z zs F rising (here {us = us}) =
    rw (eq-eqb z z refl, without_absent z us (λ m. let l : z < z = rising.0 z m in omega arith))
sum_over-without z zs F rising (there {u = y} {us = us} m) =
    rw (ne_eqb y z (let l : y < z = rising.0 z m in omega arith))
    (sum_over-without z us (both y F) rising.1 m ∙ ap (sum_over (without z us)) (both_both z y F))

-- a sum over path variables, none of them below n, has regard only to the values where the inputs are v's
pub sum_over_on : (n : ℕ) (zs : List ℕ) (F G : ℕ → Zω) (v : ℕ) → ((z : ℕ) → Among z zs → n ≤ z) →
    ((y : ℕ) → ((q : ℕ) → q < n → bit q y ≡ bit q v) → F y ≡ G y) → sum_over zs F v ≡ sum_over zs G v
unfolding sum_over both
sum_over_on n [] F G v path same = same v (λ q l. refl)
sum_over_on n (z ∷ zs) F G v path same =
    sum_over_on n zs (both z F) (both z G) v (λ u m. path u (there m))
    (λ y inputs. ap₂ ◌+ω◌ (same y inputs) (same (flip z y) (λ q l. bit-flip_other q z y (apart q l) ∙ inputs q l)))
  where
    apart : (q : ℕ) → q < n → q ≡ z → ⊥
    apart q l e = let m : n ≤ z = path z here in omega arith

-- a variable that a parity c holds drops out of a sum whose values are 0 where c is 1: what is left are the values where c is 0
pub both_pinned : (z : ℕ) (c : ℕ → Bool) (F G : ℕ → Zω) → ((x : ℕ) → c (flip z x) ≡ not (c x)) → ((x : ℕ) → G (flip z x) ≡ G x) →
    ((x : ℕ) → c x ≡ false → F x ≡ G x) → ((x : ℕ) → c x ≡ true → F x ≡ 0ω) → both z F ≡ G
unfolding both
both_pinned z c F G turns free off on = fun_ext (λ x. go x (c x) refl)
  where
    go : (x : ℕ) (t : Bool) → c x ≡ t → F x +ω F (flip z x) ≡ G x
    go x false e = rw (off x e, on (flip z x) (turns x ∙ ap not e)) (+ω_idr (G x))
    go x true e = rw (on x e, off (flip z x) (turns x ∙ ap not e), free x) (+ω_idl (G x))
