use Rattle.std.proofs.Common.{◌≡◌, All, length}
use Rattle.claim_drafts.specs.Drafts.{IsDraftOf}
use Rattle.claim_drafts.proofs.drafts.Pile.new.Given as goal

abbrev pub invariant-loop-draft : goal.invariant-loop-draft
invariant-loop-draft l = record {
  count : length l.drafts.items ≡ l._draft;
  fit : All (IsDraftOf l.setting l.window) l.drafts.items;
}
