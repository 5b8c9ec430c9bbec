-- The numbers of document 01, "Amplitudes": a + bω + cω² + dω³ with four whole numbers, ω = e^(iπ/4), so that ω⁴ = −1.
-- Assumes nothing.
use Rattle.std.specs.Prelude.{ℕ, zero, suc, ℤ, pos, neg_ℤ, ◌+ℤ◌, ◌-ℤ◌, ◌*ℤ◌}

infixl 60 ◌+ω◌
infixl 70 ◌*ω◌
-- a + bω + cω² + dω³
pub record Zω : Type 0 where
  pub a : ℤ
  pub b : ℤ
  pub c : ℤ
  pub d : ℤ

-- a whole number
unfoldable pub whole : ℤ → Zω
whole k = record { a = k; b = pos 0; c = pos 0; d = pos 0 }

-- 0
unfoldable pub 0ω : Zω
0ω = whole (pos 0)

-- 1
unfoldable pub 1ω : Zω
1ω = whole (pos 1)

-- addition
unfoldable pub ◌+ω◌ : Zω → Zω → Zω
x +ω y = record { a = x.a +ℤ y.a; b = x.b +ℤ y.b; c = x.c +ℤ y.c; d = x.d +ℤ y.d }

-- negation
unfoldable pub neg : Zω → Zω
neg x = record { a = neg_ℤ x.a; b = neg_ℤ x.b; c = neg_ℤ x.c; d = neg_ℤ x.d }

-- multiplication by ω: rotate, and negate what ω⁴ = −1 brings round
unfoldable pub mulω : Zω → Zω
mulω x = record { a = neg_ℤ x.d; b = x.a; c = x.b; d = x.c }

-- multiplication by ω^k
unfoldable pub ω^ : ℕ → Zω → Zω
ω^ zero x = x
ω^ (suc k) x = mulω (ω^ k x)

-- multiplication by √2 = ω − ω³
unfoldable pub mul√2 : Zω → Zω
mul√2 x = ω^ 1 x +ω neg (ω^ 3 x)

-- multiplication by √2 k times
unfoldable pub √2^ : ℕ → Zω → Zω
√2^ zero x = x
√2^ (suc k) x = mul√2 (√2^ k x)

-- multiplication, each coefficient of one by each of the other: ω^i times ω^k is ω^(i + k), and ω⁴ = −1 turns what comes round negative
unfoldable pub ◌*ω◌ : Zω → Zω → Zω
x *ω y =
    record {
      a = x.a *ℤ y.a -ℤ (x.b *ℤ y.d +ℤ x.c *ℤ y.c +ℤ x.d *ℤ y.b);
      b = x.a *ℤ y.b +ℤ x.b *ℤ y.a -ℤ (x.c *ℤ y.d +ℤ x.d *ℤ y.c);
      c = x.a *ℤ y.c +ℤ x.b *ℤ y.b +ℤ x.c *ℤ y.a -ℤ x.d *ℤ y.d;
      d = x.a *ℤ y.d +ℤ x.b *ℤ y.c +ℤ x.c *ℤ y.b +ℤ x.d *ℤ y.a;
    }

-- a function added up over the numbers below m
unfoldable pub sum_below : ℕ → (ℕ → Zω) → Zω
sum_below zero f = 0ω
sum_below (suc m) f = sum_below m f +ω f m
