use Rattle.std.proofs.Common.{◌∙◌}
use Rattle.std.proofs.lemmas.Result.{err_from_is_err_and}
use Rattle.request_attrs.proofs.CauseLemmas.{decoding_is_last}
use Rattle.request_attrs.proofs.attributes.path_and_query.Goals as goal

pub returns-in_err-decoded-clause-cause : goal.returns-in_err-decoded-clause-cause
returns-in_err-decoded-clause-cause c =
    let p = err_from_is_err_and c.from_residual.result c.from_residual.ensures.1 in
    let raw = c.split_at_question.ensures.path in
    let slash = c.begins_with_slash.ensures.0 c.if-not-begins_with_slash.false in
    let whole = rw (c.as_bytes.ensures.value ∙ raw) at (c.are_escapes_whole.ensures.0 c.if-not-are_escapes_whole.false) in
    rw (p.1, p.2) (decoding_is_last c.args.uri.now c.in_err-decoded.field-0.0 slash whole (rw raw at c.in_err-decoded.ensures.cause))

pub returns-clause-readable : goal.returns-clause-readable
returns-clause-readable c =
    let raw = c.split_at_question.ensures.path in
    record {
      slash = c.begins_with_slash.ensures.0 c.if-not-begins_with_slash.false;
      escapes = rw (c.as_bytes.ensures.value ∙ raw) at (c.are_escapes_whole.ensures.0 c.if-not-are_escapes_whole.false);
      utf8 = rw raw at c.in_ok-decoded.ensures.utf8;
    }
