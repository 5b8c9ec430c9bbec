-- Joins compared part by part: where powers of ω carry the parts of one join to those of another, their product carries the whole. Powers
-- of ω and of √2 in the factors of a product, or in every summand of a sum, can be put in front of it.
-- Assumes nothing.
use mathlib.Core.Path.{◌≡◌, sym, ◌∙◌, ap, ap₂}
use mathlib.Core.List.{List, ◌++◌}
use Prim.Native.Nat.{ℕ, zero, suc, ◌+◌, ◌/◌, ◌%◌, ◌^◌, ◌<◌}
use Rattle.record_format.specs.Gate.{Gate, AllWithin, shift_list}
use Rattle.amplitude.specs.Number.{Zω, ◌+ω◌, ◌*ω◌, ω^, √2^, sum_below}
use Rattle.amplitude.specs.Circuit.{column}
use Rattle.amplitude.specs.Composition.{CarriedInTime, CarriedInSpace}
use Rattle.amplitude.proofs.NumberLaws.{ω^-add, √2^-add, √2^-ω^}
use Rattle.amplitude.proofs.ProductLaws.{*ω_comm, *ω-ω^, *ω-√2^, sum_below_cong}
use Rattle.amplitude.proofs.Linear.{Linear, linear_ω^, linear_√2^, tally-append, h_gates_shift}
use Rattle.amplitude.proofs.Composition.{in_time}
use Rattle.amplitude.proofs.Tensor.{in_space, every_joined}

-- a linear map passes through a sum
linear_sum_below : (f : Zω → Zω) → Linear f → (m : ℕ) (g : ℕ → Zω) → f (sum_below m g) ≡ sum_below m (λ u. f (g u))
unfolding sum_below
linear_sum_below f l zero g = l.zero
linear_sum_below f l (suc m) g = l.sum (sum_below m g) (g m) ∙ ap (λ z. z +ω f (g m)) (linear_sum_below f l m g)

-- powers of ω and of √2 in both factors of a product, added up in front of it
factors : (j k p q : ℕ) (x y : Zω) → ω^ j (√2^ p x) *ω ω^ k (√2^ q y) ≡ ω^ (j + k) (√2^ (p + q) (x *ω y))
factors j k p q x y =
    rw (*ω_comm (ω^ j (√2^ p x)), *ω-ω^, *ω-√2^, *ω_comm (ω^ k (√2^ q y)), *ω-ω^, *ω-√2^, √2^-ω^, ω^-add, √2^-add)

-- where ω^j carries x to x' and ω^k carries y to y', both up to powers of √2, ω^(j + k) carries the product
product_carried :
    (j k p p' q q' : ℕ) (x x' y y' : Zω) → ω^ j (√2^ p' x) ≡ √2^ p x' → ω^ k (√2^ q' y) ≡ √2^ q y' →
    ω^ (j + k) (√2^ (p' + q') (x *ω y)) ≡ √2^ (p + q) (x' *ω y')
unfolding ω^
product_carried j k p p' q q' x x' y y' e f = sym (factors j k p' q' x y) ∙ ap₂ ◌*ω◌ e f ∙ factors 0 0 p q x' y'

-- joined in time, the powers add up
pub carried_in_time : CarriedInTime
carried_in_time n j k first first' second second' l l' c d v hv w hw =
    simp tally-append
    (rw (in_time n first second l v w hv hw, in_time n first' second' l' v w hv hw)
    (ap (ω^ (j + k)) (linear_sum_below _ (linear_√2^ _) (2 ^ n) _)
    ∙ linear_sum_below _ (linear_ω^ (j + k)) (2 ^ n) _
    ∙ sum_below_cong (2 ^ n) _ _ (λ u hu. product_carried j k _ _ _ _ _ _ _ _ (c v hv u hu) (d u hu w hw))
    ∙ sym (linear_sum_below _ (linear_√2^ _) (2 ^ n) _)))

-- an amplitude of a join in space, input and output cut at 2^n
cut_in_space :
    (n m : ℕ) (first second : List Gate) → AllWithin n first → (v w : ℕ) → v < 2 ^ (n + m) → w < 2 ^ (n + m) →
    column (first ++ shift_list n second) v w ≡ column first (v % 2 ^ n) (w % 2 ^ n) *ω column second (v / 2 ^ n) (w / 2 ^ n)
cut_in_space n m first second l v w hv hw =
    let (v₀, v₁, from) = every_joined n m v hv in
    let (w₀, w₁, to) = every_joined n m w hw in
    rw (from, to) at (in_space n m first second l _ _ _ _ v₀ w₀ v₁ w₁)

-- joined in space, the powers add up
pub carried_in_space : CarriedInSpace
carried_in_space n m j k first first' second second' l l' c d v hv w hw =
    let (v₀, v₁, _) = every_joined n m v hv in
    let (w₀, w₁, _) = every_joined n m w hw in
    simp (tally-append, h_gates_shift)
    (rw (cut_in_space n m first second l v w hv hw, cut_in_space n m first' second' l' v w hv hw)
    (product_carried j k _ _ _ _ _ _ _ _ (c _ v₀ _ w₀) (d _ v₁ _ w₁)))
