-- Laws of the exclusive or of two Bools.
-- Assumes nothing.
use mathlib.Core.Path.{◌≡◌, refl, sym, ◌∙◌, ap}
use mathlib.Core.Bool.{Bool, true, false, not, ◌&&◌, xor}

-- false is neutral in front
pub xor_falseˡ : (a : Bool) → xor false a ≡ a
unfolding xor
xor_falseˡ true = refl
xor_falseˡ false = refl

-- false is neutral behind
pub xor_falseʳ : (a : Bool) → xor a false ≡ a
unfolding xor
xor_falseʳ true = refl
xor_falseʳ false = refl

-- true complements
pub xor_trueˡ : (a : Bool) → xor true a ≡ not a
unfolding xor
xor_trueˡ true = refl
xor_trueˡ false = refl

-- a value cancels itself
pub xor_self : (a : Bool) → xor a a ≡ false
unfolding xor
xor_self true = refl
xor_self false = refl

-- the exclusive or commutes
pub xor_comm : (a b : Bool) → xor a b ≡ xor b a
unfolding xor
xor_comm true true = refl
xor_comm true false = refl
xor_comm false true = refl
xor_comm false false = refl

-- the exclusive or regroups
pub xor_assoc : (a b c : Bool) → xor (xor a b) c ≡ xor a (xor b c)
unfolding xor
xor_assoc true true true = refl
xor_assoc true true false = refl
xor_assoc true false true = refl
xor_assoc true false false = refl
xor_assoc false true true = refl
xor_assoc false true false = refl
xor_assoc false false true = refl
xor_assoc false false false = refl

-- a value put in twice is gone
pub xor_cancel : (a b : Bool) → xor a (xor a b) ≡ b
xor_cancel a b = sym (xor_assoc a a b) ∙ (ap (λ (t : Bool). xor t b) (xor_self a) ∙ xor_falseˡ b)

-- the first two of three exchange their places
pub xor-left_comm : (a b c : Bool) → xor a (xor b c) ≡ xor b (xor a c)
xor-left_comm a b c = sym (xor_assoc a b c) ∙ (ap (λ (t : Bool). xor t c) (xor_comm a b) ∙ xor_assoc b a c)

-- the inner two of four exchange their places
pub xor_swap : (a b c d : Bool) → xor (xor a b) (xor c d) ≡ xor (xor a c) (xor b d)
xor_swap a b c d = xor_assoc a b (xor c d) ∙ (ap (xor a) (xor-left_comm b c d) ∙ sym (xor_assoc a c (xor b d)))

-- and distributes over the exclusive or
pub xor_and : (a b c : Bool) → xor a b && c ≡ xor (a && c) (b && c)
unfolding xor
xor_and true true true = refl
xor_and true true false = refl
xor_and true false true = refl
xor_and true false false = refl
xor_and false true true = refl
xor_and false true false = refl
xor_and false false c = refl
