use Rattle.std.proofs.lemmas.Result.{err_from_is_err_and}
use Rattle.request_attrs.proofs.attributes.attrs_of.Goals as goal

pub returns-in_err-path-clause-cause : goal.returns-in_err-path-clause-cause
returns-in_err-path-clause-cause c =
    let p = err_from_is_err_and c.from_residual.result c.from_residual.ensures.1 in
    rw (p.1, p.2) (rw c.as_str.ensures.value at c.in_err-path.ensures.cause)
