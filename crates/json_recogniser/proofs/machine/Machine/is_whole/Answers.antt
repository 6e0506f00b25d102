use Rattle.std.proofs.Common.{◌&&◌, reverse, sym, ap, ◌∙◌}
use Rattle.json_recogniser.proofs.EndLemmas.{ends_at, is_bare, bare_reverse}
use Rattle.json_recogniser.proofs.machine.Machine.is_whole.Goals as goal

pub returns-then-may_end : goal.returns-then-may_end
returns-then-may_end c =
    let m = c.args.self.now in
    bare_reverse m.marks.items c.is_empty.result c.is_empty.ensures
    ∙ sym (ap (λ v. v && is_bare (reverse m.marks.items)) (sym c.may_end.ensures ∙ c.if-may_end.true))
    ∙ sym (ends_at m.state (reverse m.marks.items))

pub returns-else-may_end : goal.returns-else-may_end
returns-else-may_end c =
    let m = c.args.self.now in
    c.if-may_end.false
    ∙ sym (ap (λ v. v && is_bare (reverse m.marks.items)) (sym c.may_end.ensures ∙ c.if-may_end.false))
    ∙ sym (ends_at m.state (reverse m.marks.items))
