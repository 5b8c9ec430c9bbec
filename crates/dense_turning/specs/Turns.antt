-- Turns of a column: what a turn by powers of ω makes of it, in place or across.
-- Assumes nothing.
use Rattle.std.specs.Prelude.{ℕ, true, false, cond, ◌&&◌}
use Rattle.amplitude.specs.Number.{ω^}
use Rattle.amplitude.specs.Bits.{bit, put}
use Rattle.amplitude.specs.Circuit.{State}

-- a state with the amplitudes times ω^k where bits a and b are both 1
unfoldable pub turned_where : ℕ → ℕ → ℕ → State → State
turned_where a b k ψ w = cond (bit a w && bit b w) (ω^ k (ψ w)) (ψ w)

-- the lowest of the four places that differ in bits a and b alone
abbrev pub lowest : ℕ → ℕ → ℕ → ℕ
lowest a b u = put a false (put b false u)

-- a state with the amplitudes exchanged along bit q: those that come to 0 times ω^b, those that come to 1 times ω^c
unfoldable pub crossed : ℕ → ℕ → ℕ → State → State
crossed q b c ψ w = cond (bit q w) (ω^ c (ψ (put q false w))) (ω^ b (ψ (put q true w)))
