-- `phase_sum_vectors::pair::build_accepted` meets what `build` requires: behind its tests the variables are few, and the workspaces have all places, so
-- that two accepted records can be built.
use Rattle.std.proofs.Common.{◌≡◌, ℕ, ◌+◌, ◌≤◌, List, length, take, replicate, arith, length-take-le, rules}
use Rattle.record_format.proofs.Parts.{gates_of_part}
use Rattle.amplitude.specs.Circuit.{h_gates}
use Rattle.phase_sum_meaning.specs.Room.{most_variables, places, words_each}
use Rattle.phase_sum_words.specs.Words.{sets_in}
use Rattle.phase_sum_types.specs.Workspace.{Level}
use Rattle.phase_sum_types.specs.declared.Parity.{Parity}
use Rattle.phase_sum_types.proofs.TwoWords.{level_places}
use Rattle.phase_sum_types.proofs.Acceptance.{buildable}
use Rattle.phase_sum_vectors.proofs.pair.build_accepted.Goals as goal

-- the first n of sixteen wires are n
wires_of : (n : ℕ) (w : Parity) → n ≤ 16 → length (take n (replicate 16 w)) ≡ n
wires_of n w few = length-take-le n (replicate 16 w) few

-- workspaces with all their places have a set at each of them
all_sets : (ws cs : List ℕ) → Level ws cs → length cs ≡ places → places ≤ length (sets_in words_each ws)
all_sets ws cs l f = rw (level_places ws cs l) (omega arith)

pub build-sum-requires : goal.build-sum-requires
build-sum-requires g c =
    let first = c.gates-one.ensures.content in
    let second = c.gates-two.ensures.content in
    let pre = c.requires in
    let n = c.args.n in
    let sets = c.args.state.now.sets in
    let coeffs = c.args.state.now.coeffs in
    let told = c.few_variables.ensures c.if-not-few_variables.false in
    let few : n + (h_gates pre.0.0 + h_gates pre.1.0) ≤ most_variables =
    rw (first, second, gates_of_part _ _ _ pre.0.1, gates_of_part _ _ _ pre.1.1) at told
    in
    let terms : Level sets coeffs = search rules in
    let all : length coeffs ≡ places = search rules in
    let enough : places ≤ length coeffs = omega arith in
    let fits = buildable _ _ _ _ _ _ coeffs pre.0.1 pre.1.1 few (all_sets sets coeffs terms all) enough in
    let long = wires_of n c.default-parities.result c.if-n-gt-MOST_QUBITS.false in
    (rw (c.new-wires.ensures.many, long, first, second) fits, terms)
