-- What the public calls answer and what the lent workspaces hold afterwards: document 01, "Report, pick, builder" and "Where a call is
-- turned down".
-- Assumes nothing.
use Rattle.std.specs.Prelude.{◌≡◌, ℕ, ◌+◌, ◌≤◌, codes, Bool, true, false, cond, not, ◌&&◌, ◌||◌, List, [], ◌∷◌, ◌++◌, length, take, drop, replicate, eqb, ltb, Result as Returned, Ok, Err}
use Rattle.std.proofs.Math.Option.{Option, none, some}
use Rattle.record_format.specs.Gate.{Gate}
use Rattle.record_format.specs.Row.{Row, first}
use Rattle.record_format.specs.Reading.{Reading, accepted, refused, read, count, size}
use Rattle.record_format.specs.Answer as list
use Rattle.record_format.specs.Answer.{fields}
use Rattle.record_format.specs.Format.{last_verdict}
use Rattle.record_format.specs.declared.Report.{Report}
use Rattle.record_format.specs.Pair.{PairFault, in_first, in_second, of_pair, number_in, pair_row}
use Rattle.amplitude.specs.Circuit.{h_gates, t_gates}
use Rattle.phase_sum_meaning.specs.Room.{most_variables, places, set_words}
use Rattle.comparison_meaning.specs.Verdict as verdict
use Rattle.comparison_meaning.specs.Verdict.{Result, numbered, numbers, compare}
use Rattle.comparison_types.specs.declared.Verdict.{Verdict}
use Rattle.comparison_types.specs.declared.Verdict.TheVariants.{Equal, Different, Undecided, Turned}
use Rattle.comparison_types.specs.declared.Outcome.{Outcome}
use Rattle.comparison_types.specs.declared.Refusal.{Refusal}
use Rattle.comparison_types.specs.declared.Refusal.TheVariants.{QubitsDiffer, TooManyVariables, BlockTooLarge, WorkspaceShort}

-- what a refusal says: the list, the number and the index, or the pair's number
abbrev pub fault_of : Refusal → PairFault
fault_of (Refusal.First r) = in_first (list.fault_of r)
fault_of (Refusal.Second r) = in_second (list.fault_of r)
fault_of QubitsDiffer = of_pair 8
fault_of TooManyVariables = of_pair 9
fault_of BlockTooLarge = of_pair 14
fault_of WorkspaceShort = of_pair 10

-- its number
abbrev pub number_of : Refusal → ℕ
number_of r = number_in (fault_of r)

-- what a comparison says: a result, or why the pair is refused and nothing else
pub data Said : Type 0 where
  says : Result → Said
  refuses : PairFault → Said

-- the number of a verdict in documents 01 and 02
abbrev pub verdict_number : Verdict → ℕ
verdict_number Equal = 0
verdict_number Different = 1
verdict_number Undecided = 2
verdict_number Turned = 3

-- the verdict that an enum's case stands for
abbrev pub verdict_of : Verdict → verdict.Verdict
verdict_of v = numbered (verdict_number v)

-- a verdict's word
abbrev pub verdict_word : verdict.Verdict → List ℕ
verdict_word verdict.equal = codes "equal"
verdict_word verdict.different = codes "different"
verdict_word verdict.undecided = codes "undecided"
verdict_word verdict.turned = codes "turned"

-- the result that an outcome stands for
abbrev pub result_of : Outcome → Result
result_of o =
    record {
      verdict = verdict_of o.verdict;
      first = o.first;
      second = o.second;
      pins = o.pins;
      sums = o.sums;
      turns = o.turns;
      joins = o.joins;
      left = o.left;
    }

-- the report of an outcome: the eight numbers of its result, and a verdict that the report's writer takes
pub record Reports (o : Outcome) (r : Report) : Type 0 where
  pub fields : fields r ≡ numbers (result_of o)
  pub known : r.verdict ≤ last_verdict

-- what an answer stands for
abbrev pub said_of : Returned Outcome Refusal → Said
said_of (Ok o) = says (result_of o)
said_of (Err r) = refuses (fault_of r)

-- the table's rows for a pair of accepted lists on n and m qubits
abbrev pub pair_rows : ℕ → ℕ → List Gate → List Gate → List (Row PairFault)
pair_rows n m gs hs =
    pair_row 8 (not (eqb n m))
    ∷ pair_row 9 (ltb most_variables (n + (h_gates gs + h_gates hs)))
    ∷ []

-- and below them its row for workspaces of w words and c bytes
abbrev pub workspace_rows : ℕ → ℕ → List (Row PairFault)
workspace_rows w c =
    pair_row 10 (ltb w set_words || ltb c places)
    ∷ []

-- the first list is read, then the second, then the pair's rows and those below them are tried from top to bottom
unfoldable pub pair_fault : Reading → Reading → List (Row PairFault) → Option PairFault
pair_fault (refused f) r below = some (in_first f)
pair_fault (accepted n gs) (refused f) below = some (in_second f)
pair_fault (accepted n gs) (accepted m hs) below = first (pair_rows n m gs hs ++ below)

-- the comparison of two readings that passed all checks
unfoldable pub compare_read : Reading → Reading → Said
compare_read (accepted n gs) (accepted m hs) = says (compare 0 n gs hs)
compare_read (accepted n gs) (refused f) = refuses (in_second f)
compare_read (refused f) r = refuses (in_first f)

-- the answer, unless a fault stops it
abbrev pub unless_fault : Option PairFault → Said → Said
unless_fault none s = s
unless_fault (some f) s = refuses f

-- what comparing two records says
abbrev pub comparison : List ℕ → List ℕ → ℕ → ℕ → Said
comparison s t w c = unless_fault (pair_fault (read s) (read t) (workspace_rows w c)) (compare_read (read s) (read t))

-- a lent workspace of which a comparison uses m words or bytes, afterwards: unchanged where the call is refused, else zeros in the first m
-- and the others unchanged
abbrev pub left_by : ℕ → Said → List ℕ → List ℕ
left_by m (says r) old = replicate m 0 ++ drop m old
left_by m (refuses f) old = old

-- the second list is better: fewer T gates, or as many and fewer gates
abbrev pub better : List Gate → List Gate → Bool
better gs hs = ltb (t_gates hs) (t_gates gs) || (eqb (t_gates hs) (t_gates gs) && ltb (length hs) (length gs))

-- which record the pick hands back
pub data Choice : Type 0 where
  the_first the_second nothing : Choice

-- a verdict of equal. (A pair that a turn carries is not: under a control qubit the turn shows.)
abbrev pub is_equal : verdict.Verdict → Bool
is_equal verdict.equal = true
is_equal verdict.different = false
is_equal verdict.undecided = false
is_equal verdict.turned = false

-- if equal, the better one; the first if different, undecided or turned; nothing if refused
unfoldable pub choice : Said → Reading → Reading → Choice
choice (refuses f) r q = nothing
choice (says o) (accepted n gs) (accepted m hs) = cond (is_equal o.verdict) (cond (better gs hs) the_second the_first) the_first
choice (says o) (accepted n gs) (refused f) = nothing
choice (says o) (refused f) q = nothing

-- what the pick chooses for two records and workspaces of w words and c bytes
abbrev pub picked : List ℕ → List ℕ → ℕ → ℕ → Choice
picked s t w c = choice (comparison s t w c) (read s) (read t)

-- a record's own bytes, and nothing after them
abbrev pub own_bytes : List ℕ → List ℕ
own_bytes s = take (size (count s)) s

-- the part that is handed back
abbrev pub picked_part : Choice → List ℕ → List ℕ → List ℕ
picked_part the_first s t = own_bytes s
picked_part the_second s t = own_bytes t
picked_part nothing s t = []

-- where it starts: at the caller's first byte of that record
abbrev pub picked_at {ℓ} : {B : Type ℓ} → Choice → B → B → B
picked_at the_first p q = p
picked_at the_second p q = q
picked_at nothing p q = p
