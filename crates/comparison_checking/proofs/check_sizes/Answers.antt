-- `comparison_checking::check_sizes` meets its contract: at each `return` the tests that led there say which of the pair's rows is the
-- first that holds.
-- Assumes nothing.
use mathlib.Core.Path.{◌≡◌, sym}
use mathlib.Core.List.{List, []}
use Prim.Native.Nat.{ℕ, ◌+◌, ◌<◌, ◌≤◌}
use native.Mathlib.Omega.{arith}
use Rattle.record_format.specs.Row.{first}
use Rattle.amplitude.specs.Circuit.{h_gates}
use Rattle.phase_sum_meaning.specs.Room.{most_variables}
use Rattle.comparison_types.specs.Inner.{AcceptedWith}
use Rattle.comparison_types.proofs.PairLaws.{whole_of, h_counted, small, differ, too_many, below_decide}
use Rattle.comparison_checking.proofs.check_sizes.Goals as goal

-- n and the H gates x and y of both lists are small
bounded : {n m g h : ℕ} {s t : List ℕ} (list : AcceptedWith n g s) (other : AcceptedWith m h t) (x y : ℕ) → x ≡ h_gates list.gates
    → y ≡ h_gates other.gates
    → (n ≤ 16) × (x ≤ 512) × (y ≤ 512)
bounded list other x y a b =
    let first = small list in
    let second = small other in
    (first.0, omega arith, omega arith)

pub returns-then-n-other-clause-fault : goal.returns-then-n-other-clause-fault
returns-then-n-other-clause-fault c = differ [] c.requires.0 c.requires.1 c.if-n-other.true

pub gate_bytes-first-requires : goal.gate_bytes-first-requires
gate_bytes-first-requires c = whole_of c.requires.0

pub gate_bytes-second-requires : goal.gate_bytes-second-requires
gate_bytes-second-requires c = whole_of c.requires.1

pub overflow_add-h_gates : goal.overflow_add-h_gates
overflow_add-h_gates c =
    let in_first = h_counted c.requires.0 c.gate_bytes-first.ensures.content c.h_gates.ensures in
    let in_second = h_counted c.requires.1 c.gate_bytes-second.ensures.content c.h_gates-2.ensures in
    omega (arith, bounded c.requires.0 c.requires.1 _ _ in_first in_second)

pub overflow_add-n : goal.overflow_add-n
overflow_add-n c =
    let in_first = h_counted c.requires.0 c.gate_bytes-first.ensures.content c.h_gates.ensures in
    let in_second = h_counted c.requires.1 c.gate_bytes-second.ensures.content c.h_gates-2.ensures in
    omega (arith, bounded c.requires.0 c.requires.1 _ _ in_first in_second)

pub returns-then-n-h_gates-gt-MOST_VARIABLES-clause-fault : goal.returns-then-n-h_gates-gt-MOST_VARIABLES-clause-fault
returns-then-n-h_gates-gt-MOST_VARIABLES-clause-fault c =
    let pre = c.requires in
    let in_first = h_counted pre.0 c.gate_bytes-first.ensures.content c.h_gates.ensures in
    let in_second = h_counted pre.1 c.gate_bytes-second.ensures.content c.h_gates-2.ensures in
    let many : most_variables < c.args.one.n + (h_gates pre.0.gates + h_gates pre.1.gates) = omega arith in
    too_many [] pre.0 pre.1 c.if-n-other.false many

pub returns-clause-fault : goal.returns-clause-fault
unfolding first
returns-clause-fault c =
    let pre = c.requires in
    let in_first = h_counted pre.0 c.gate_bytes-first.ensures.content c.h_gates.ensures in
    let in_second = h_counted pre.1 c.gate_bytes-second.ensures.content c.h_gates-2.ensures in
    let few : c.args.one.n + (h_gates pre.0.gates + h_gates pre.1.gates) ≤ most_variables = omega arith in
    sym (below_decide [] pre.0 pre.1 c.if-n-other.false few)
