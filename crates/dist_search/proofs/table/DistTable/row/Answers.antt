use Rattle.std.proofs.Common.{◌≡◌, ◌∙◌, ◌*◌, length, drop, take, get_or, ap, subst}
use Rattle.dist_search.specs.Tables.{Distances, IsTable}
use Rattle.dist_search.proofs.Rows.{row_entry, row_is, row_length}
use Rattle.dist_search.proofs.table.DistTable.row.Goals as goal
use Rattle.dist_search.proofs.table.DistTable.row.Goals.{After-part}

part_is : (c : After-part) → c.part.result.now ≡ take (length c.args.self.now.members)
    (drop (c.args.i * length c.args.self.now.members) c.args.self.now.entries)
part_is c =
    let t = c.args.self.now in
    let count = c.len-count.ensures ∙ c.self.inside.members.ok.0
    ∙ ap (λ (d : Distances). length d.members) c.self.view_is in
    c.part.ensures ∙ row_is c.deref.result.now t.entries c.args.i c.len-count.result (length
    t.members) (c.deref.ensures.value ∙ ap (λ (d : Distances). d.entries) c.self.view_is) count

pub returns-clause-count : goal.returns-clause-count
returns-clause-count c = ap length (part_is c)
    ∙ row_length c.args.self.now (subst IsTable c.self.view_is c.self.invariant) c.args.i c.requires

pub returns-clause-entry : goal.returns-clause-entry
returns-clause-entry c j l = ap (λ xs. get_or xs j 0) (part_is c)
    ∙ row_entry c.args.self.now c.args.i j c.requires l
