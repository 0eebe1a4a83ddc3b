use Rattle.std.proofs.Common.{ap, ◌∙◌, Some}
use Rattle.poison_cascade.specs.Books.{confirmed_by}
use Rattle.poison_cascade.proofs.Supports.{named_entry}
use Rattle.poison_cascade.proofs.entry.Entry.confirm.Goals as goal

pub returns : goal.returns
returns c =
    named_entry c.args.source c.args.ticket c.self.inside.supports.items
    c.name_ticket.new.supports.items c.self.inside.ticket c.self.inside.stands
    c.self.inside.taken
    c.name_ticket.ensures ∙
    ap (confirmed_by (Some c.args.ticket) c.args.source) c.self.view_is
