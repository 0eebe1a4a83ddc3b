use Rattle.std.proofs.Common.{◌≡◌, ◌∙◌, ◌⊎◌, inl, inr, List, ℕ, Some, None, map, refl, sym, ap, subst}
use Rattle.std.proofs.lemmas.Option.{none-some}
use Rattle.swiper_run.specs.Words.{request_of}
use Rattle.swiper_run.specs.Answers.{IsAnswerOf}
use Rattle.swiper_run.specs.declared.top.Status.{Status}
use Rattle.swiper_run.specs.declared.top.Status.TheVariants as ends
use Rattle.swiper_run.specs.declared.words.Request.{Request}
use Rattle.swiper_run.specs.declared.words.Request.TheVariants.{OfInput, Make}
use Rattle.swiper_run.specs.declared.words.Asked.TheVariants.{Decode, Plan, Replay}
use Rattle.swiper_run.proofs.Asking.{asking_named}
use Rattle.swiper_run.proofs.Completeness.{completed, planned, replayed_well}
use Rattle.swiper_run.proofs.Concluding.{never_of_request, script_of_replay}
use Rattle.swiper_run.proofs.Making.{made_well}
use Rattle.swiper_run.proofs.top.run.Goals as goal

-- of the statuses without words that are accepted, none is another
no_other : (result other : Status) →
    ((result ≡ ends.Usage) ⊎ (result ≡ ends.WriteFault)) ⊎ (result ≡ ends.Memory) →
    (ends.Usage ≡ other → ⊥) → (ends.WriteFault ≡ other → ⊥) → (ends.Memory ≡ other → ⊥) →
    result ≡ other → ⊥
no_other result other (inl (inl is)) usage write memory e = usage (sym is ∙ e)
no_other result other (inl (inr is)) usage write memory e = write (sym is ∙ e)
no_other result other (inr is) usage write memory e = memory (sym is ∙ e)

pub returns-in-Ok-clause-answer : goal.returns-in-Ok-clause-answer
returns-in-Ok-clause-answer g c input told =
    let answered = c.grant.ensures.answer input told in (
      answered.0,
      answered.1,
      subst (λ o. IsAnswerOf o (g.P.Port.left c.grant.new.port)
          (g.P.Port.read_faults c.args.port.now) (g.P.Port.read_faults c.grant.new.port)
          c.grant.result answered.0) (sym c.in-Ok.ensures.request) answered.2,
    )

pub returns-in-Err-clause-answer : goal.returns-in-Err-clause-answer
returns-in-Err-clause-answer g c input told =
    c.decline.ensures.answer (request_of (map (λ w. w.now) c.args.words.now))
    (g.P.Port.read_faults c.args.port.now) c.in-Err.ensures.usage

pub returns-in-Ok-clause-complete : goal.returns-in-Ok-clause-complete
returns-in-Ok-clause-complete g c input told good reads writes =
    completed c.headed.ensures.one c.headed.ensures.stands c.judged.ensures.never_both
    (map (λ w. w.now) c.args.words.now) input _ _ _ _ _ _ c.grant.result told good
    (returns-in-Ok-clause-answer g c input told) (λ e. reads (c.grant.ensures.read_fault e))
    (λ e. writes (c.grant.ensures.write_fault e))

pub returns-in-Ok-clause-plan_complete : goal.returns-in-Ok-clause-plan_complete
returns-in-Ok-clause-plan_complete g c input told good reads writes =
    planned c.headed.ensures.one c.headed.ensures.stands c.judged.ensures.never_both
    (map (λ w. w.now) c.args.words.now) input _ _ _ _ _ _ c.grant.result told good
    (returns-in-Ok-clause-answer g c input told) (λ e. reads (c.grant.ensures.read_fault e))
    (λ e. writes (c.grant.ensures.write_fault e))

pub returns-in-Ok-clause-replay_complete : goal.returns-in-Ok-clause-replay_complete
returns-in-Ok-clause-replay_complete g c input told good reads writes =
    replayed_well c.headed.ensures.one c.headed.ensures.stands c.judged.ensures.never_both
    (map (λ w. w.now) c.args.words.now) input _ _ _ _ _ _ c.grant.result told good
    (returns-in-Ok-clause-answer g c input told) (λ e. reads (c.grant.ensures.read_fault e))
    (λ e. writes (c.grant.ensures.write_fault e))

some_same : (r q : Request) → Some r ≡ Some q → r ≡ q
some_same r q e = cc

-- words that ask for something are declined for want of memory alone
only_memory : (words : List (List ℕ)) (asked : Request) (result : Status) (Wrong Rose : Type 0) →
    request_of words ≡ Some asked → (Wrong → request_of words ≡ None) →
    ((result ≡ ends.Usage) ⊎ (result ≡ ends.WriteFault)) ⊎ (result ≡ ends.Memory) →
    (result ≡ ends.Usage → Wrong) → (result ≡ ends.WriteFault → Rose) → (Rose → ⊥) →
    (result ≡ ends.Ok) ⊎ (result ≡ ends.Memory)
only_memory words asked result Wrong Rose is none (inl (inl usage)) wrong rose never =
    absurd (none-some asked (sym (none (wrong usage)) ∙ is))
only_memory words asked result Wrong Rose is none (inl (inr failed)) wrong rose never =
    absurd (never (rose failed))
only_memory words asked result Wrong Rose is none (inr memory) wrong rose never = inr memory

pub returns-in-Err-clause-complete : goal.returns-in-Err-clause-complete
returns-in-Err-clause-complete g c input told good reads writes =
    only_memory (map (λ w. w.now) c.args.words.now) (OfInput (Decode good.options)) c.decline.result
    _ _
    good.given c.in-Err.ensures.usage c.decline.ensures.one c.decline.ensures.usage
    c.decline.ensures.write_fault writes

pub returns-in-Err-clause-plan_complete : goal.returns-in-Err-clause-plan_complete
returns-in-Err-clause-plan_complete g c input told good reads writes =
    only_memory (map (λ w. w.now) c.args.words.now) (OfInput (Plan good.sizes)) c.decline.result _ _
    good.given c.in-Err.ensures.usage c.decline.ensures.one c.decline.ensures.usage
    c.decline.ensures.write_fault writes

pub returns-in-Err-clause-replay_complete : goal.returns-in-Err-clause-replay_complete
returns-in-Err-clause-replay_complete g c input told good reads writes =
    only_memory (map (λ w. w.now) c.args.words.now) (OfInput (Replay good.options))
    c.decline.result _ _ good.given c.in-Err.ensures.usage c.decline.ensures.one
    c.decline.ensures.usage c.decline.ensures.write_fault writes

-- ---- statuses, whatever the port does

pub returns-in-Ok-clause-usage : goal.returns-in-Ok-clause-usage
returns-in-Ok-clause-usage g c e =
    absurd (never_of_request c.in-Ok.request c.grant.result ends.Usage c.grant.ensures.accepted
    (refl, refl) e)

pub returns-in-Err-clause-usage : goal.returns-in-Err-clause-usage
returns-in-Err-clause-usage g c e = c.in-Err.ensures.usage (c.decline.ensures.usage e)

pub returns-in-Ok-clause-unaccepted : goal.returns-in-Ok-clause-unaccepted
returns-in-Ok-clause-unaccepted g c none =
    absurd (none-some c.in-Ok.request (sym none ∙ c.in-Ok.ensures.request))

pub returns-in-Err-clause-unaccepted : goal.returns-in-Err-clause-unaccepted
returns-in-Err-clause-unaccepted g c none = c.decline.ensures.one

pub returns-in-Ok-clause-memory : goal.returns-in-Ok-clause-memory
returns-in-Ok-clause-memory g c e =
    asking_named (map (λ w. w.now) c.args.words.now) c.in-Ok.request c.in-Ok.ensures.request

pub returns-in-Err-clause-memory : goal.returns-in-Err-clause-memory
returns-in-Err-clause-memory g c e = c.in-Err.ensures.memory (c.decline.ensures.memory e)

pub returns-in-Ok-clause-script : goal.returns-in-Ok-clause-script
returns-in-Ok-clause-script g c e =
    let asked = script_of_replay c.in-Ok.request c.grant.result c.grant.ensures.accepted e in
    (asked.0, c.in-Ok.ensures.request ∙ ap (λ r. Some r) asked.1)

pub returns-in-Err-clause-script : goal.returns-in-Err-clause-script
returns-in-Err-clause-script g c e =
    absurd (no_other c.decline.result ends.Script c.decline.ensures.one (λ x. cc) (λ x. cc)
    (λ x. cc) e)

pub returns-in-Ok-clause-no_log : goal.returns-in-Ok-clause-no_log
returns-in-Ok-clause-no_log g c =
    never_of_request c.in-Ok.request c.grant.result ends.No c.grant.ensures.accepted (refl, refl)

pub returns-in-Err-clause-no_log : goal.returns-in-Err-clause-no_log
returns-in-Err-clause-no_log g c =
    no_other c.decline.result ends.No c.decline.ensures.one (λ e. cc) (λ e. cc) (λ e. cc)

pub returns-in-Err-clause-read_fault : goal.returns-in-Err-clause-read_fault
returns-in-Err-clause-read_fault g c e =
    absurd (no_other c.decline.result ends.ReadFault c.decline.ensures.one (λ x. cc) (λ x. cc)
    (λ x. cc) e)

pub returns-in-Ok-clause-make_complete : goal.returns-in-Ok-clause-make_complete
returns-in-Ok-clause-make_complete g c asked writes =
    let same = some_same c.in-Ok.request (Make asked.options)
    (sym c.in-Ok.ensures.request ∙ asked.given) in
    let answer = c.grant.ensures.made asked.options same in
    made_well asked.options c.grant.result answer.0 answer.1 asked.few
    (λ e. writes (c.grant.ensures.write_fault e))

pub returns-in-Err-clause-make_complete : goal.returns-in-Err-clause-make_complete
returns-in-Err-clause-make_complete g c asked writes =
    only_memory (map (λ w. w.now) c.args.words.now) (Make asked.options) c.decline.result _ _
    asked.given c.in-Err.ensures.usage c.decline.ensures.one c.decline.ensures.usage
    c.decline.ensures.write_fault writes
