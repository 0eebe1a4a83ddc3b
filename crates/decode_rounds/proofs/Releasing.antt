-- The lines of releases, one after another.
use Rattle.std.proofs.Common.{◌<◌, ℕ, suc, ◌+◌, Bool, List, [], ◌++◌, length, take, drop, flat_map, sym, ap, ◌∙◌, subst, slice_index_or, take-append-drop, append-nil}
use Rattle.std.specs.declared.option.Option.{Option}
use Rattle.std.proofs.lemmas.List.{take_more}
use Rattle.std.proofs.Math.Seq.{drop-cons}
use Rattle.port_io.specs.Port.{sent}
use Rattle.port_io.specs.Traffic.{Goes}
use Rattle.port_io.specs.declared.port.TapeByte.{TapeByte}
use Rattle.port_io.proofs.Traffic.{goes_both}
use Rattle.report_model.specs.Tapes.{bytes_of}
use Rattle.report_model.specs.Texts.{release_line}
use Rattle.run_rounds.specs.Moves.{put_moves}
use Rattle.run_rounds.specs.Releases.{ArePutPartly, IsLineCut}
use Rattle.run_rounds.specs.declared.release.PutError.{PutError}
use Rattle.run_rounds.specs.declared.release.PutError.TheVariants.{WriteFault, Memory}
use Rattle.run_rounds.proofs.Moving.{moves_put_more}

-- the line of one more release
pub line_more : (labels : List (List ℕ)) (rs : List (ℕ × Bool)) (k : ℕ) (d : ℕ × Bool)
    (a b c : Option (List ℕ)) (t u v : Option (List TapeByte)) → k < length rs →
    Goes (flat_map (bytes_of labels) (put_moves (take k rs))) a b t u →
    Goes (sent (release_line labels (slice_index_or rs k d).0 (slice_index_or rs k d).1)) b c u v →
    Goes (flat_map (bytes_of labels) (put_moves (take (k + 1) rs))) a c t v
line_more labels rs k d a b c t u v l so_far one =
    let r = slice_index_or rs k d in
    let done = take k rs in
    subst (λ items. Goes items a c t v)
    (sym (ap (λ xs. flat_map (bytes_of labels) (put_moves xs)) (take_more rs k d l)
    ∙ moves_put_more labels done r.0 r.1))
    (goes_both (flat_map (bytes_of labels) (put_moves done)) (sent (release_line labels r.0 r.1)) a
    b c t u v so_far one)

-- those that are put, and the others
pub partly_more : (labels : List (List ℕ)) (rs : List (ℕ × Bool)) (k : ℕ) (d : ℕ × Bool)
    (error : PutError) (a b c : Option (List ℕ)) (t u v : Option (List TapeByte)) → k < length rs →
    Goes (flat_map (bytes_of labels) (put_moves (take k rs))) a b t u →
    IsLineCut (release_line labels (slice_index_or rs k d).0 (slice_index_or rs k d).1) error b c u
    v → ArePutPartly labels rs error a c t v
partly_more labels rs k d WriteFault a b c t u v l so_far cut =
    let r = slice_index_or rs k d in
    let done = take k rs in (
      done,
      r.0,
      r.1,
      drop (suc k) rs,
      cut.0,
      sym (take-append-drop k rs) ∙ ap (λ xs. done ++ xs) (drop-cons rs k d l),
      goes_both (flat_map (bytes_of labels) (put_moves done))
          (sent (take cut.0 (release_line labels r.0 r.1))) a b c t u v so_far cut.1,
    )
partly_more labels rs k d Memory a b c t u v l so_far none =
    let done = take k rs in (
      done,
      drop k rs,
      sym (take-append-drop k rs),
      subst (λ items. Goes items a c t v) (append-nil (flat_map (bytes_of labels) (put_moves done)))
          (goes_both (flat_map (bytes_of labels) (put_moves done)) [] a b c t u v so_far none),
    )
