use Rattle.std.proofs.Common.{◌≡◌, ◌∙◌, arith, length, refl, subst, sym}
use Rattle.std.proofs.lemmas.Option.{slice_get_read}
use Rattle.measure_map.specs.Placed.{IsFirstOf, Placed}
use Rattle.measure_map.proofs.Firsts.{end_is, first_is}
use Rattle.measure_map.proofs.map.MeasureMap.first_detector.Goals as goal

pub returns-then-slot-len : goal.returns-then-slot-len
returns-then-slot-len c =
    let detectors = c.self.inside.detectors.items in
    let all : c.len-then-slot-len.result ≡ length detectors = c.len-then-slot-len.ensures
    ∙ c.self.inside.detectors.ok.0 in
    subst (IsFirstOf c.args.self.now.detectors c.args.slot) (sym all)
    (subst (λ (m : Placed). IsFirstOf m.detectors c.args.slot (length detectors)) c.self.view_is
    (end_is _ c.self.inside.starts.items c.self.invariant c.args.slot
    (omega (arith, c.if-slot-len.true, c.len.ensures, c.self.inside.starts.ok.0))))

pub returns : goal.returns
returns c =
    let starts = c.self.inside.starts.items in let n = c.index.result.now in
    subst (λ (m : Placed). IsFirstOf m.detectors c.args.slot n) c.self.view_is
    (first_is _ starts c.self.invariant c.args.slot n
    (slice_get_read starts (length starts) c.args.slot n refl
    (omega (arith, c.if-slot-len.false, c.len.ensures, c.self.inside.starts.ok.0))
    c.index.ensures))
