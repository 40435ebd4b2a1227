use Rattle.std.proofs.Common.{◌≡◌, ◌++◌, drop}
use Rattle.std.specs.Prelude.{option_map}
use Rattle.borrowed_json.specs.View.{items_view}
use Rattle.audit_event.specs.Users.{texts_in}
use Rattle.audit_event.proofs.user.read_texts.Given as goal

abbrev pub invariant-loop-item : goal.invariant-loop-item
invariant-loop-item l = texts_in (items_view l.item-items) ≡ option_map (λ rest. l.texts ++ rest) (texts_in (items_view (drop l.item-index l.item-items)))
