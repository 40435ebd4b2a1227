use Rattle.std.proofs.Common.{sym, ◌∙◌}
use Rattle.object_past.proofs.Looking.{fitting_found, fitting_none, fitting_other}
use Rattle.object_past.proofs.past.Past.version.Goals as goal

pub returns-in_err-version : goal.returns-in_err-version
returns-in_err-version c =
    let none = rw c.as_slice.ensures at c.in_err-version.ensures in
    rw (c.from_residual.ensures, ← c.self.view_is) (sym (fitting_none c.self.inside.versions c.args.key.now c.args.revision (sym none)))

pub returns-then-not-has_key : goal.returns-then-not-has_key
returns-then-not-has_key c =
    let found = rw c.as_slice.ensures at c.in_ok-version.ensures in
    rw (← c.self.view_is) (sym (fitting_other c.self.inside.versions c.args.key.now c.args.revision c.in_ok-version.version.now c.self.invariant.rising (sym found) (sym c.has_key.ensures ∙ c.if-not-has_key.true)))

pub returns : goal.returns
returns c =
    let found = rw c.as_slice.ensures at c.in_ok-version.ensures in
    rw (← c.self.view_is) (sym (fitting_found c.self.inside.versions c.args.key.now c.args.revision c.in_ok-version.version.now c.self.invariant.rising (sym found) (sym c.has_key.ensures ∙ c.if-not-has_key.false)))
