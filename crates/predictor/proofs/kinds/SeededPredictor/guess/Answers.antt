use Rattle.std.proofs.Common.{◌≡◌, ◌%◌, ◌*◌, ◌+◌, ◌^◌, nat_eq, ap, ◌∙◌, arith}
use Rattle.rand_pcg.specs.Pcg.{pcg32, multiplier_64}
use Rattle.rand_pcg.specs.Lcg.{increment_of, started}
use Rattle.predictor.specs.Kinds.{seeded_answer}
use Rattle.predictor.proofs.kinds.SeededPredictor.guess.Goals as goal

pub returns : goal.returns
unfolding seeded_answer
returns c =
    let seed = c.args.self.now.seed in
    let stream : c.from.result * 2 ^ 32 + c.from-2.result ≡ c.args.view.now.source * 2 ^ 32
    + c.args.view.now.place = omega (arith, c.from.ensures, c.from-2.ensures) in
    let word : c.next_word.result ≡ (pcg32 c.new.result).0 = ap (λ p. p.0) c.next_word.ensures in
    let made = c.new.ensures ∙ ap (λ s. started 64 multiplier_64 seed (increment_of 64 s)) stream in
    ap (λ n. nat_eq (n % 2) 1) (word ∙ ap (λ g. (pcg32 g).0) made)
