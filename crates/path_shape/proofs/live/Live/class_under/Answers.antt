use Rattle.std.proofs.Common.{sym, ap, ◌∙◌}
use Rattle.std.specs.Prelude.{unwrap_or}
use Rattle.path_shape.specs.Passing.{entry_class, built_in_class, released_class}
use Rattle.path_shape.proofs.PassLemmas.{ending_elsewhere, ending_in_metadata, first_found, second_found, last_found}
use Rattle.path_shape.proofs.live.Live.class_under.Goals as goal

pub returns-then-not-is_metadata : goal.returns-then-not-is_metadata
returns-then-not-is_metadata c =
    c.unwrap_or.ensures
    ∙ ap (λ o. unwrap_or o c.args.class)
    (c.entry_class.ensures ∙ sym (ending_elsewhere c.args.name.now c.args.self.unasked c.args.self.entries.now c.args.self.way.now (sym c.is_metadata.ensures ∙ c.if-not-is_metadata.true)))

pub returns-in-Some : goal.returns-in-Some
returns-in-Some c =
    let name = c.args.name.now in
    let live = c.args.self in
    let released = released_class live.unasked name in
    let own = entry_class live.way.now name live.unasked live.entries.now in
    first_found released own (built_in_class live.unasked name) c.args.class c.in-Some.found (sym c.released_class.ensures ∙ c.in-Some.is)
    ∙ ap (λ o. unwrap_or o c.args.class) (sym (ending_in_metadata name live.unasked live.entries.now live.way.now (sym c.is_metadata.ensures ∙ c.if-not-is_metadata.false)))

pub returns-in-Some-entry_class : goal.returns-in-Some-entry_class
returns-in-Some-entry_class c =
    let name = c.args.name.now in
    let live = c.args.self in
    let released = released_class live.unasked name in
    let own = entry_class live.way.now name live.unasked live.entries.now in
    second_found released own (built_in_class live.unasked name) c.args.class c.in-Some-entry_class.found (sym c.released_class.ensures ∙ c.in-None.is) (sym c.entry_class-in-None.ensures ∙ c.in-Some-entry_class.is)
    ∙ ap (λ o. unwrap_or o c.args.class) (sym (ending_in_metadata name live.unasked live.entries.now live.way.now (sym c.is_metadata.ensures ∙ c.if-not-is_metadata.false)))

pub returns-in-None-entry_class : goal.returns-in-None-entry_class
returns-in-None-entry_class c =
    let name = c.args.name.now in
    let live = c.args.self in
    let released = released_class live.unasked name in
    let own = entry_class live.way.now name live.unasked live.entries.now in
    c.unwrap_or-in-None-entry_class.ensures
    ∙ ap (λ o. unwrap_or o c.args.class) c.built_in_class.ensures
    ∙ last_found released own (built_in_class live.unasked name) c.args.class (sym c.released_class.ensures ∙ c.in-None.is) (sym c.entry_class-in-None.ensures ∙ c.in-None-entry_class.is)
    ∙ ap (λ o. unwrap_or o c.args.class) (sym (ending_in_metadata name live.unasked live.entries.now live.way.now (sym c.is_metadata.ensures ∙ c.if-not-is_metadata.false)))
