use Rattle.std.proofs.Common.{option_map, ap, ◌∙◌}
use Rattle.borrowed_json.specs.View.{view, members_view}
use Rattle.borrowed_json.proofs.Views.{looked_up, member_of, copied}
use Rattle.borrowed_json.proofs.value.JsonValue.get.Goals as goal

pub returns : goal.returns
returns c =
    let entries = c.in_ok-as_object.field-0.now.entries in
    copied c.get.result ∙ ap (option_map view) c.get.ensures.value ∙ looked_up c.args.name.now entries
    ∙ member_of c.args.name.now (view c.args.self.now) (members_view entries) c.in_ok-as_object.ensures
