use Rattle.std.proofs.Common.{◌≡◌, Bool, true, List, Option, Some, None, Ok, refl, sym, ap, ◌∙◌, codes, rules}
use Rattle.std.specs.Prelude.{option_map}
use Rattle.std.specs.List.{list_all}
use Rattle.std.specs.Option.{ok_or}
use Rattle.base_types.specs.Meaning.{Meaning}
use Rattle.base_types.specs.Parts.{member_of, items_of}
use Rattle.base_types.proofs.Found.{same_some}
use Rattle.setup_file.specs.declared.fault.SetupRule.{SetupRule}
use Rattle.setup_file.specs.declared.fault.SetupRule.TheVariants.{S8, S9, S10, S11}
use Rattle.setup_file.specs.declared.resources.Entry.{Entry}
use Rattle.setup_file.specs.declared.setup.Tracked.{Tracked}
use Rattle.setup_file.specs.Reading.{chained, resources_at}
use Rattle.setup_file.specs.Resources.{entries_in, are_apart, has_shape, tracked_in}
use Rattle.setup_file.specs.Steps.{◌>>=◌, or_breaks, unless_breaks}
use Rattle.setup_file.proofs.Chains.{test_kept}
use Rattle.setup_file.proofs.resources.read_resources.Goals as goal

breaks_as : {A : Type 0} (rule : SetupRule) (o : Option A) → or_breaks rule o ≡ ok_or o rule
breaks_as rule None = refl
breaks_as rule (Some x) = refl

-- entries that are apart, and whose shapes are in their form
judged : (trees : List Meaning) (entries : Option (List Entry)) (apart : Bool) → option_map are_apart entries ≡ Some apart → apart ≡ true → list_all has_shape trees ≡ true
    → (or_breaks S8 entries >>= (λ all. unless_breaks S9 (are_apart all) (unless_breaks S10 (list_all has_shape trees) (or_breaks S11 (tracked_in trees))))) ≡ or_breaks S11 (tracked_in trees)
judged trees None apart e holds shaped = absurd (cc)
judged trees (Some all) apart e holds shaped =
    ap (λ b. unless_breaks S9 b (unless_breaks S10 (list_all has_shape trees) (or_breaks S11 (tracked_in trees)))) (same_some (are_apart all) apart e ∙ holds)
    ∙ ap (λ b. unless_breaks S10 b (or_breaks S11 (tracked_in trees))) shaped

-- then all hangs on what was read of them
all_judged : (value member : Meaning) (trees : List Meaning) (apart : Bool) (found : Option (List Tracked)) → member_of (codes "resources") value ≡ Some member → items_of member ≡ Some trees
    → option_map are_apart (entries_in trees) ≡ Some apart → apart ≡ true → list_all has_shape trees ≡ true → found ≡ tracked_in trees → resources_at value ≡ ok_or found S11
all_judged value member trees apart found is listed named holds shaped read =
    ap (λ o. or_breaks S8 (chained o items_of) >>= (λ all. or_breaks S8 (entries_in all) >>= (λ entries. unless_breaks S9 (are_apart entries) (unless_breaks S10 (list_all has_shape all) (or_breaks S11 (tracked_in all)))))) is
    ∙ ap (λ o. or_breaks S8 o >>= (λ all. or_breaks S8 (entries_in all) >>= (λ entries. unless_breaks S9 (are_apart entries) (unless_breaks S10 (list_all has_shape all) (or_breaks S11 (tracked_in all)))))) listed
    ∙ judged trees (entries_in trees) apart named holds shaped
    ∙ breaks_as S11 (tracked_in trees)
    ∙ ap (λ o. ok_or o S11) (sym read)

pub returns-in_err-resources-clause-cause : goal.returns-in_err-resources-clause-cause
returns-in_err-resources-clause-cause c =
    let trees = c.in_ok-values.values.items in
    let breaks = all_judged c.args.value.now c.in-Some.member trees c.in_ok-apart.apart c.in_ok-read_all_tracked.field-0
    (sym c.in-Some.ensures)
    (sym c.in-Some-as_items.ensures ∙ ap Some (sym c.in_ok-values.ensures))
    (ap (λ ts. option_map are_apart (entries_in ts)) (sym c.deref.ensures.value) ∙ sym c.in_ok-are_entries_apart.ensures ∙ c.in_ok-apart.ensures.ok_part)
    (test_kept S9 c.in_ok-apart.apart (Ok tt) c.in_ok-unless_breaks.field-0 (sym c.in_ok-unless_breaks.ensures)).0
    (ap (list_all has_shape) (sym c.deref-2.ensures.value) ∙ sym c.in_ok-have_shapes.ensures.have ∙ (test_kept S10 c.in_ok-have_shapes.field-0 (Ok tt) c.in_ok-unless_breaks-2.field-0 (sym c.in_ok-unless_breaks-2.ensures)).0)
    (c.in_ok-read_all_tracked.ensures ∙ ap tracked_in c.deref-3.ensures.value)
    ∙ sym c.in_err-resources.ensures.value in
    search (rules, breaks)

pub returns-clause-resources : goal.returns-clause-resources
returns-clause-resources c =
    let trees = c.in_ok-values.values.items in
    all_judged c.args.value.now c.in-Some.member trees c.in_ok-apart.apart c.in_ok-read_all_tracked.field-0
    (sym c.in-Some.ensures)
    (sym c.in-Some-as_items.ensures ∙ ap Some (sym c.in_ok-values.ensures))
    (ap (λ ts. option_map are_apart (entries_in ts)) (sym c.deref.ensures.value) ∙ sym c.in_ok-are_entries_apart.ensures ∙ c.in_ok-apart.ensures.ok_part)
    (test_kept S9 c.in_ok-apart.apart (Ok tt) c.in_ok-unless_breaks.field-0 (sym c.in_ok-unless_breaks.ensures)).0
    (ap (list_all has_shape) (sym c.deref-2.ensures.value) ∙ sym c.in_ok-have_shapes.ensures.have ∙ (test_kept S10 c.in_ok-have_shapes.field-0 (Ok tt) c.in_ok-unless_breaks-2.field-0 (sym c.in_ok-unless_breaks-2.ensures)).0)
    (c.in_ok-read_all_tracked.ensures ∙ ap tracked_in c.deref-3.ensures.value)
    ∙ sym c.in_ok-resources.ensures.value
    ∙ ap Ok (sym (c.in_ok-of.ensures ∙ c.into_vec.ensures))
