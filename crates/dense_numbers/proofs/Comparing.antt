-- Amplitudes compared: `==` compares the four coefficients.
-- Assumes nothing.
use mathlib.Core.Path.{◌≡◌, refl, sym, ◌∙◌, ap}
use mathlib.Core.Bool.{Bool, true, false, ◌&&◌}
use lib.IntN.{ℤ}
use Rattle.std.proofs.Common.{int_eq}
use Rattle.std.proofs.lemmas.Bool.Decides.{Decides-int_eq}
use Rattle.amplitude.specs.Testing.{eq_ℤ, eqω}
use Rattle.amplitude.proofs.Testing.{eq_ℤ_true, eq_ℤ_same}
use Rattle.dense_numbers.specs.Numbers.{number}
use Rattle.dense_numbers.specs.declared.Amplitude.{Amplitude}

-- whole numbers compare as they do in the code
compares : (x y : ℤ) → int_eq x y ≡ eq_ℤ x y
compares x y = go (int_eq x y) (eq_ℤ x y) refl refl
  where
    go : (s t : Bool) → int_eq x y ≡ s → eq_ℤ x y ≡ t → s ≡ t
    go true true d e = refl
    go false false d e = refl
    go true false d e = sym (eq_ℤ_same x) ∙ ap (eq_ℤ x) ((Decides-int_eq x y).0 d) ∙ e
    go false true d e = sym d ∙ (Decides-int_eq x y).1 (eq_ℤ_true x y e)

-- so amplitudes compare as the numbers that they stand for
pub equal_numbers : (x y : Amplitude) →
    (int_eq x.a y.a && (int_eq x.b y.b && (int_eq x.c y.c && int_eq x.d y.d))) ≡ eqω (number x) (number y)
unfolding eqω
equal_numbers x y =
    rw (compares x.a y.a, compares x.b y.b, compares x.c y.c, compares x.d y.d)
    (sym (and_assoc (eq_ℤ x.a y.a) (eq_ℤ x.b y.b) (eq_ℤ x.c y.c && eq_ℤ x.d y.d)))
  where
    and_assoc : (p q r : Bool) → ((p && q) && r) ≡ (p && (q && r))
    and_assoc true q r = refl
    and_assoc false q r = refl
