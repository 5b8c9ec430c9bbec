-- The search over inputs of weight up to 3, the verdict, its two inputs and the counts: document 01, "Reducing it", and document 02, item 4.
-- Assumes nothing.
use Rattle.std.specs.Prelude.{ℕ, zero, suc, ◌+◌, ◌%◌, ◌^◌, true, false, cond, not, List, [], ◌∷◌, ◌++◌, map, length, eqb}
use Rattle.std.proofs.Math.Option.{Option, none, some}
use Rattle.record_format.specs.Gate.{Gate, inverse_list}
use Rattle.amplitude.specs.Bits.{bit}
use Rattle.phase_sum_meaning.specs.Sets.{first_in, from, first_such}
use Rattle.phase_sum_meaning.specs.Parity.{Parity}
use Rattle.phase_sum_meaning.specs.Phase.{Phase, phase_at, minus}
use Rattle.phase_sum_meaning.specs.Building.{build}
use Rattle.comparison_meaning.specs.Reduction.{End, pinned, reduce_end}

-- the inputs below 2^n of weight k, with zeros at the scratch qubits, lower numbers first
unfoldable pub weight : ℕ → ℕ → ℕ → List ℕ
weight scratch zero n = 0 ∷ []
weight scratch (suc k) zero = []
weight scratch (suc k) (suc n) =
    weight scratch (suc k) n ++ cond (bit n scratch) [] (map (λ v. 2 ^ n + v) (weight scratch k n))

-- the inputs that the search looks at, in its order
abbrev pub candidates : ℕ → ℕ → List ℕ
candidates scratch n = weight scratch 1 n ++ weight scratch 2 n ++ weight scratch 3 n

-- the first input of a list whose phase differs from that of input 0
abbrev pub first_differing : Phase → List ℕ → Option ℕ
first_differing φ vs = first_such (λ v. not (eqb (phase_at φ v % 8) (phase_at φ 0 % 8))) vs

-- the four verdicts. Turned is document 02's: a power of ω other than 1, a global phase, carries the first list to the second
pub data Verdict : Type 0 where
  equal different undecided turned : Verdict

-- the number of a verdict in documents 01 and 02
abbrev pub number : Verdict → ℕ
number equal = 0
number different = 1
number undecided = 2
number turned = 3

-- the verdict of a number. (No verdict has a number above 3.)
abbrev pub numbered : ℕ → Verdict
numbered zero = equal
numbered (suc zero) = different
numbered (suc (suc zero)) = undecided
numbered (suc (suc (suc k))) = turned

-- the verdict where ω^j, j below 8, carries the first list to the second: equal where that is 1, else turned
abbrev pub agreement : ℕ → Verdict
agreement zero = equal
agreement (suc j) = turned

-- what the comparison returns: the verdict, its two inputs (of turned: the power of ω, and 0) and the five counts
pub record Result : Type 0 where
  pub verdict : Verdict
  pub first : ℕ
  pub second : ℕ
  pub pins : ℕ
  pub sums : ℕ
  pub turns : ℕ
  pub joins : ℕ
  pub left : ℕ

-- a result's eight numbers, in the order in which document 01 prints them and the report record has them
abbrev pub numbers : Result → List ℕ
numbers r =
    number r.verdict ∷ r.first ∷ r.second ∷ r.pins ∷ r.sums ∷ r.turns ∷ r.joins ∷ r.left ∷ []

-- document 01's left: the path variables that no pin or join has replaced and no sum, turn or join has taken out
abbrev pub left : End → ℕ
left e = length e.sum.live

-- a result by its verdict and inputs, with the counts of the end
abbrev pub result : Verdict → ℕ → ℕ → End → Result
result v a b e =
    record {
      verdict = v;
      first = a;
      second = b;
      pins = e.counts.pins;
      sums = e.counts.sums;
      turns = e.counts.turns;
      joins = e.counts.joins;
      left = left e;
    }

-- an input that makes a blocked parity 1: 0 if its constant is 1, else the input holding only its lowest qubit
unfoldable pub blocked_input : ℕ → Parity → ℕ
blocked_input n q = cond q.flipped 0 (elim (first_in (from 0 n) q.vars) [ none ↦ 0 | some v ↦ 2 ^ v ])

-- the power of ω that carries the first list to the second, where the phase that is left is the same at every input: minus its constant
abbrev pub power : End → ℕ
power e = minus e.sum.phase.constant

-- no path variable is left: the search decides, unless pins and sums differ. Where it finds nothing, the power of ω is shown
unfoldable pub searched : ℕ → ℕ → End → Result
searched scratch n e =
    elim (eqb e.counts.pins e.counts.sums) [
      | false ↦ result different 0 0 e
      | true ↦ elim (first_differing e.sum.phase (candidates scratch n)) [
        | some v ↦ result different 0 v e
        | none ↦ result (agreement (power e)) (power e) 0 e
      ]
    ]

-- the verdict on where the reduction ended
unfoldable pub judge : ℕ → ℕ → End → Result
judge scratch n e =
    elim e.blocked_by [
      | some q ↦ result different (blocked_input n q) (blocked_input n q) e
      | none ↦ elim (eqb (left e) 0) [ true ↦ searched scratch n e | false ↦ result undecided 0 0 e ]
    ]

-- first list, then the second backwards with S and T exchanged for their inverses
abbrev pub miter : List Gate → List Gate → List Gate
miter first second = first ++ inverse_list second

-- where pinning the sum of a pair ends
abbrev pub pinned_of : ℕ → ℕ → List Gate → List Gate → End
pinned_of scratch n first second = pinned scratch n (build scratch n (miter first second))

-- where the reduction of a pair ends
abbrev pub reduced_of : ℕ → ℕ → List Gate → List Gate → End
reduced_of scratch n first second = reduce_end (pinned_of scratch n first second)

-- the comparison of two lists on n qubits
unfoldable pub compare : ℕ → ℕ → List Gate → List Gate → Result
compare scratch n first second = judge scratch n (reduced_of scratch n first second)
