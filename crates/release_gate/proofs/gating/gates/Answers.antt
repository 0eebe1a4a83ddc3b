use Rattle.std.proofs.Common.{◌<◌, All, [], length, map, sym, ap, subst, ◌∙◌, arith, get_or}
use Rattle.std.proofs.lemmas.List.{length-map}
use Rattle.std.proofs.lemmas.Grind.{get_or_default_zero}
use Rattle.window_model.specs.Gates.{IsFirstTooEarly}
use Rattle.window_model.specs.Windows.{window_count}
use Rattle.release_gate.specs.Gated.{AreRounds, IsFirstEarly}
use Rattle.release_gate.specs.Operations.{timed_at}
use Rattle.release_gate.proofs.Planned.{needed_within}
use Rattle.release_gate.proofs.Timed.{first_is, gates_are}
use Rattle.release_gate.proofs.gating.gates.Goals as goal

pub ready_slots-requires : goal.ready_slots-requires
ready_slots-requires c =
    let made = c.requires.plan in
    (c.planned.ensures c.args.graph.now made.tags made.order made.commit made.buffer
    c.args.plan.now.plan c.is_graph.ensures.ends made.each_tag made.is_plan).deps_lower

pub rounds_of-requires-clause-windows : goal.rounds_of-requires-clause-windows
rounds_of-requires-clause-windows c k l =
    let needs = c.in_ok-needs.needs.items in
    let within : k < length c.args.ops.now = omega (
      arith,
      l,
      ap length c.deref.ensures.value,
      length-map needs (λ v. v.items),
      c.in_ok-needs.ensures.each,
    ) in
    let long = ap length c.deref-2.ensures.value ∙ c.in_ok-slots.ensures.ready.each_window in
    subst (λ n. All (λ w. w < n) (get_or (map (λ v. v.items) c.deref.result.now) k [])) (sym long)
    (subst (λ vs. All (λ w. w < window_count c.args.plan.now.plan)
    (get_or (map (λ v. v.items) vs) k [])) (sym c.deref.ensures.value)
    (needed_within c.args.graph.now c.args.plan.now.plan c.args.ops.now (map (λ v. v.items) needs)
    c.in_ok-needs.ensures k within))

pub returns-in-Some-clause-err : goal.returns-in-Some-clause-err
returns-in-Some-clause-err c task t =
    let made = c.requires.plan in
    let ops = c.args.ops.now in
    let slots = c.in_ok-slots.slots.items in
    let needs = c.in_ok-needs.needs.items in
    let rounds = c.in_ok-rounds.rounds.items in
    let lists = map (λ v. v.items) needs in
    let are =
    subst (λ vs. AreRounds slots ops (map (λ v. v.items) vs) rounds) c.deref.ensures.value
    (subst (λ ss. AreRounds ss ops (map (λ v. v.items) c.deref.result.now) rounds)
    c.deref-2.ensures.value c.in_ok-rounds.ensures) in
    let first = subst (λ rs. IsFirstEarly ops rs c.in-Some.op) c.deref-3.ensures.value
    c.in-Some.ensures.found in
    let within : c.in-Some.op < length rounds = omega (arith, first.in_range, are.each) in
    subst (IsFirstTooEarly task c.in-Some.op) (sym (c.index.ensures
    ∙ get_or_default_zero rounds c.in-Some.op c.index.result.now within))
    (first_is c.planned.ensures c.computed_round.ensures c.one_round.ensures
    c.args.graph.now c.args.plan.now.plan c.is_graph.ensures.ends made ops c.requires.named
    slots c.in_ok-slots.ensures.ready lists c.in_ok-needs.ensures rounds are task t c.in-Some.op
    first)

pub returns-clause-ok : goal.returns-clause-ok
returns-clause-ok c task t =
    let ops = c.args.ops.now in
    let slots = c.in_ok-slots.slots.items in
    let needs = c.in_ok-needs.needs.items in
    let rounds = c.in_ok-rounds.rounds.items in
    let lists = map (λ v. v.items) needs in
    let are =
    subst (λ vs. AreRounds slots ops (map (λ v. v.items) vs) rounds) c.deref.ensures.value
    (subst (λ ss. AreRounds ss ops (map (λ v. v.items) c.deref.result.now) rounds)
    c.deref-2.ensures.value c.in_ok-rounds.ensures) in
    gates_are c.planned.ensures c.computed_round.ensures c.one_round.ensures c.args.graph.now
    c.args.plan.now.plan c.is_graph.ensures.ends c.requires.plan ops c.requires.named slots
    c.in_ok-slots.ensures.ready lists c.in_ok-needs.ensures rounds are task t
    (λ k l. subst (λ rs. get_or rs k 0 < (timed_at ops k).slot) c.deref-3.ensures.value
    (c.first_early.ensures.none c.in-None.is k l))

pub returns-in-Some-clause-one : goal.returns-in-Some-clause-one
returns-in-Some-clause-one c = (subst (λ rs. IsFirstEarly c.args.ops.now rs c.in-Some.op)
    c.deref-3.ensures.value c.in-Some.ensures.found).in_range
