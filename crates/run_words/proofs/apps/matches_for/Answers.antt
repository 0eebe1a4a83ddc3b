use Rattle.std.proofs.Common.{◌≡◌, Bool, true, false, refl, sym, ap, ◌∙◌, map}
use Rattle.clap.specs.Words.{App, fault_of, is_simple, is_simple_and_free, matches_of, takes}
use Rattle.run_words.specs.Apps.{are_taken, rows_for}
use Rattle.run_words.specs.declared.words.WordsError.TheVariants.{Usage}
use Rattle.run_words.proofs.Named.{free, simple, takes_faultless}
use Rattle.run_words.proofs.apps.matches_for.Goals as goal

not_true : (b : Bool) → (b ≡ true → ⊥) → b ≡ false
not_true true h = absurd (h refl)
not_true false h = refl

pub returns-in-Ok-try_get_matches_from-clause-rows :
    goal.returns-in-Ok-try_get_matches_from-clause-rows
unfolding rows_for
returns-in-Ok-try_get_matches_from-clause-rows c =
    let app = c.in-Ok.ensures in
    (c.in-Ok-try_get_matches_from.ensures.matches (ap is_simple app ∙ simple c.args.name)).0
    ∙ ap (λ (a : App). matches_of a (map (λ w. w.now) c.args.words.now)) app

pub returns-in-Ok-try_get_matches_from-clause-taken :
    goal.returns-in-Ok-try_get_matches_from-clause-taken
returns-in-Ok-try_get_matches_from-clause-taken c =
    let app = c.in-Ok.ensures in
    takes_faultless c.args.name (map (λ w. w.now) c.args.words.now)
    (ap (λ (a : App). fault_of a (map (λ w. w.now) c.args.words.now)) (sym app)
    ∙ c.in-Ok-try_get_matches_from.ensures.kinds (ap is_simple_and_free app ∙ free c.args.name))

pub returns-in-Err-clause-usage : goal.returns-in-Err-clause-usage
unfolding are_taken
returns-in-Err-clause-usage c e =
    let app = c.in-Ok.ensures in
    let same : c.refusal.result ≡ Usage = cc in
    not_true _ (λ t. c.refusal.ensures same
    (c.in-Err.ensures.passes
    (ap (λ (a : App). takes a (map (λ w. w.now) c.args.words.now)) app ∙ t)))
