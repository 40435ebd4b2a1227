use Rattle.std.proofs.Common.{not, sym, ap, ◌∙◌, subst, true≢false}
use Rattle.std.specs.Prelude.{bytes_eq}
use Rattle.std.specs.Cmp.Lexicographic.{bytes_decides}
use Rattle.past_building.proofs.Entries.{entry_gone, entry_none, entry_there, first_in}
use Rattle.past_building.proofs.Ending.{found_range, no_range, unlike}
use Rattle.past_building.specs.Growing.{IsLatestIn}
use Rattle.past_building.specs.Modelled.{making_of, removal_of}
use Rattle.past_building.proofs.versions.entry_before.Goals as goal
use Rattle.past_building.proofs.versions.entry_before.Goals.{else-making-via-then-making+then-ne+else-is_some, else-making-via-then-making+else-ne, else-making-via-else-making}

pub returns-in_err-latest : goal.returns-in_err-latest
returns-in_err-latest c = rw c.from_residual.ensures (λ h done log e latest.
    entry_none h done (making_of c.args.making) e (subst (IsLatestIn done c.args.making.item.now.key) c.in_err-latest.was latest))

pub returns-then-is_some : goal.returns-then-is_some
returns-then-is_some c = λ h done log e latest.
    let last = subst (IsLatestIn done c.args.making.item.now.key) c.in_ok-latest.was latest in
    let v = c.in_ok-latest.latest.version.now in
    let flag = first_in h done c.args.making.item.now.revision v c.in_ok-latest.latest.is_first e last.0.known last.1 in
    let found = found_range c.range_behind.result _ (sym c.if-is_some.ensures) c.range_behind.ensures.some in
    entry_gone h done (making_of c.args.making) v e last.0 (record {
      created = c.if-making.true;
      other_uid = λ same. true≢false (c.if-ne.ensures ∙ ap not ((bytes_decides v.uid c.args.making.item.now.uid).1 same));
      removal = removal_of v found.0;
      removed = found.1 h log flag;
    })

pub returns : goal.returns
returns c = λ h done log e latest.
    let last = subst (IsLatestIn done c.args.making.item.now.key) c.in_ok-latest.was latest in
    let v = c.in_ok-latest.latest.version.now in
    let flag = first_in h done c.args.making.item.now.revision v c.in_ok-latest.latest.is_first e last.0.known last.1 in
    entry_there h done (making_of c.args.making) v e last.0 (λ anew. elim c.else-making.branch [
      | else-making-via-then-making+then-ne+else-is_some w ↦
          no_range w.range_behind.result _ (sym w.if-is_some.ensures) w.range_behind.ensures.none h anew.removal log flag anew.removed
      | else-making-via-then-making+else-ne w ↦ anew.other_uid ((bytes_decides v.uid c.args.making.item.now.uid).0 (unlike (bytes_eq v.uid c.args.making.item.now.uid) w.if-ne.ensures))
      | else-making-via-else-making w ↦ true≢false (sym anew.created ∙ w.if-making.false)
    ])
