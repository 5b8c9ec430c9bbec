-- What the gates of the code are, as gates of specs/Gate.
-- Assumes nothing.
use Rattle.record_format.specs.Gate as meant
use Rattle.record_format.specs.declared.gate.OneQubit.{OneQubit}
use Rattle.record_format.specs.declared.gate.OneQubit.TheVariants.{X, Y, Z, S, SInverse, T, TInverse, H}
use Rattle.record_format.specs.declared.gate.TwoQubit.{TwoQubit}
use Rattle.record_format.specs.declared.gate.TwoQubit.TheVariants.{Cx, Cz, Swap}
use Rattle.record_format.specs.declared.gate.Gate.{Gate}
use Rattle.record_format.specs.declared.gate.Gate.TheVariants.{One, Two}

-- a kind on one qubit
abbrev pub one_in : OneQubit → meant.OneQubit
one_in X = meant.X
one_in Y = meant.Y
one_in Z = meant.Z
one_in S = meant.S
one_in SInverse = meant.S†
one_in T = meant.T
one_in TInverse = meant.T†
one_in H = meant.H

-- a kind on two qubits
abbrev pub two_in : TwoQubit → meant.TwoQubit
two_in Cx = meant.CX
two_in Cz = meant.CZ
two_in Swap = meant.SWAP

-- a gate
abbrev pub gate_in : Gate → meant.Gate
gate_in (One kind q) = meant.one (one_in kind) q
gate_in (Two kind a b) = meant.two (two_in kind) a b
