-- The checkpoints of a setup and the chains of a log are few, at revisions of the cluster's sequence.
use Rattle.std.proofs.Common.{◌≡◌, ℕ, zero, suc, ◌+◌, ◌≤◌, Bool, true, false, ◌&&◌, ◌||◌, List, [], ◌∷◌, ◌++◌, length, Option, Some, None, Ok, Err, inl, inr, slice_get, codes, refl, sym, subst, if◌then◌else◌, arith}
use Rattle.std.specs.Prelude.{⊤}
use Rattle.std.specs.List.{filter_map}
use Rattle.std.proofs.lemmas.Option.{same_Some}
use Rattle.base_types.specs.Revisions.{IsRevision}
use Rattle.base_types.specs.Meaning.{Meaning}
use Rattle.base_types.specs.Parts.{items_of, member_of}
use Rattle.base_types.specs.Texts.{text_at}
use Rattle.audit_event.specs.declared.event.Event.{Event}
use Rattle.answer_class.specs.Classes.{class_of}
use Rattle.answer_class.specs.declared.answer.Answer.{Answer}
use Rattle.answer_class.specs.declared.answer.Answer.TheVariants.{Made, Removed, Opaque, Saw, SawNone, SawSome, SawOther, Listed, Free, Aside}
use Rattle.page_chains.proofs.ChainLemmas.{IsOfPages, chains_are}
use Rattle.page_chains.proofs.Members.{Each, Maybe, anything, each_append, each_made, each_mapped, holds_of}
use Rattle.page_chains.specs.Chains.{chain_of, chains_in, chains_of}
use Rattle.page_chains.specs.Pages.{is_selective, page_in, page_of, pages_of}
use Rattle.page_chains.specs.declared.page.Page.{Page}
use Rattle.base_types.proofs.Found.{found_both, same_some, where_true}
use Rattle.setup_file.proofs.Chains.{kept_both, not_broken, same_kept, test_kept}
use Rattle.setup_file.proofs.Gathered.{taken}
use Rattle.setup_file.specs.Authorization.{authorization_of, is_authorized}
use Rattle.setup_file.specs.Checkpoints.{checkpoint_of, checkpoints_from, checkpoints_of, few_checkpoints, is_no_text, is_whole_at}
use Rattle.setup_file.specs.Forms.{is_form}
use Rattle.setup_file.specs.Lists.{list_of}
use Rattle.setup_file.specs.Reading.{ReadsAs, clocks_of, is_known_version, is_setup_form, policy_at, resources_at, setup_with, snapshot_at}
use Rattle.setup_file.specs.Resources.{tracked_as}
use Rattle.setup_file.specs.Steps.{or_breaks, unless_breaks}
use Rattle.setup_file.specs.declared.fault.SetupRule.TheVariants.{S1, S2, S3, S14, S15}
use Rattle.setup_file.specs.declared.setup.Checkpoint.{Checkpoint}
use Rattle.setup_file.specs.declared.setup.Setup.{Setup}
use Rattle.setup_file.specs.declared.setup.Tracked.{Tracked}
use Rattle.context_laws.proofs.AnsweredRevisions.{ShowsRevision, list_revision, shows_revision}

abbrev IsAtRevision : Checkpoint → Type 0
IsAtRevision checkpoint = IsRevision checkpoint.revision

abbrev AreAtRevisions : List Checkpoint → Type 0
AreAtRevisions checkpoints = Each IsAtRevision checkpoints

checkpoint_is : (start : ℕ) (resources : List Tracked) (number : ℕ) (tree : Meaning) (checkpoint : Checkpoint) → checkpoint_of start resources number tree ≡ Some checkpoint → IsAtRevision checkpoint
checkpoint_is start resources number tree checkpoint e =
    let form = where_true (is_form (codes "group" ∷ codes "resource" ∷ codes "namespace" ∷ codes "list" ∷ []) tree) _ checkpoint e in
    let group = found_both (text_at (codes "group") tree) _ checkpoint form.1 in
    let resource = found_both (text_at (codes "resource") tree) _ checkpoint group.2 in
    let namespace = found_both (text_at (codes "namespace") tree) _ checkpoint resource.2 in
    let tracked = found_both (tracked_as resources group.0 resource.0) _ checkpoint namespace.2 in
    let value = found_both (member_of (codes "list") tree) _ checkpoint tracked.2 in
    let list = found_both (list_of tracked.0 [] namespace.0 value.0) _ checkpoint value.2 in
    let fits = where_true ((is_no_text namespace.0 || tracked.0.namespaced) && is_whole_at start list.0) _ checkpoint list.2 in
    subst IsAtRevision (same_some _ checkpoint fits.1) (list_revision tracked.0 [] namespace.0 value.0 list.0 list.1)

checkpoints_are : (start : ℕ) (resources : List Tracked) (number : ℕ) (trees : List Meaning) (checkpoints : List Checkpoint) → checkpoints_from start resources number trees ≡ Some checkpoints → AreAtRevisions checkpoints
checkpoints_are start resources number [] checkpoints e = subst AreAtRevisions (same_some [] checkpoints e) tt
checkpoints_are start resources number (tree ∷ trees) checkpoints e =
    let found = taken (checkpoint_of start resources number tree) (checkpoints_from start resources (number + 1) trees) checkpoints e in
    subst AreAtRevisions found.4 (checkpoint_is start resources number tree found.0 found.2, checkpoints_are start resources (number + 1) trees found.1 found.3)

given_are : (start : ℕ) (resources : List Tracked) (member : Option Meaning) (checkpoints : List Checkpoint) → checkpoints_of start resources member ≡ Some checkpoints → AreAtRevisions checkpoints
given_are start resources None checkpoints e = subst AreAtRevisions (same_some [] checkpoints e) tt
given_are start resources (Some list) checkpoints e =
    let trees = found_both (items_of list) _ checkpoints e in
    let few = found_both (few_checkpoints trees.0) _ checkpoints trees.2 in
    checkpoints_are start resources 1 few.0 checkpoints few.2

setup_are : (tree : Meaning) (setup : Setup) → setup_with tree ≡ Ok setup → AreAtRevisions setup.checkpoints
setup_are tree setup e =
    let clocks = kept_both (clocks_of tree) _ setup e in
    let policy = kept_both (policy_at tree) _ setup clocks.2 in
    let resources = kept_both (resources_at tree) _ setup policy.2 in
    let snapshot = kept_both (snapshot_at clocks.0.start resources.0 tree) _ setup resources.2 in
    let authorization = kept_both (or_breaks S14 (authorization_of tree)) _ setup snapshot.2 in
    let given = or_breaks S15 (checkpoints_of clocks.0.start resources.0 (member_of (codes "checkpoints") tree)) in
    let checkpoints = kept_both (unless_breaks S14 (is_authorized resources.0 snapshot.0 authorization.0) given) _ setup authorization.2 in
    let passed = test_kept S14 (is_authorized resources.0 snapshot.0 authorization.0) given checkpoints.0 checkpoints.1 in
    let are = given_are clocks.0.start resources.0 (member_of (codes "checkpoints") tree) checkpoints.0 (not_broken S15 _ checkpoints.0 passed.1) in
    subst (λ (s : Setup). AreAtRevisions s.checkpoints) (same_kept _ setup checkpoints.2) are

read_are : (bytes : List ℕ) (setup : Setup) → ReadsAs bytes (Ok setup) → AreAtRevisions setup.checkpoints
read_are bytes setup (inl (tree, is, e)) =
    let form = test_kept S2 (is_setup_form tree) _ setup e in
    let version = test_kept S3 (is_known_version tree) (setup_with tree) setup form.1 in
    setup_are tree setup version.1
read_are bytes setup (inr (none, broken)) = absurd (let no : Ok setup ≡ Err S1 = broken in cc)

page_in_is : (event : Event) (answer : Answer) → ShowsRevision answer → Maybe (λ (page : Page). IsRevision page.revision) (page_in event answer)
page_in_is event (Made key revision uid object created) is = tt
page_in_is event (Removed key uid) is = tt
page_in_is event (Opaque cover) is = tt
page_in_is event (Saw key revision uid object) is = tt
page_in_is event (SawNone key) is = tt
page_in_is event (SawSome key) is = tt
page_in_is event (SawOther key) is = tt
page_in_is event (Listed group resource scope revision whole items selector) is = is
page_in_is event Free is = tt
page_in_is event Aside is = tt

page_is : (setup : Setup) (event : Event) → ⊤ → Maybe (λ (page : Page). IsRevision page.revision) (page_of setup event)
page_is setup event any = by_test (is_selective event.attrs)
  where
    by_test : (b : Bool) → Maybe (λ (page : Page). IsRevision page.revision) (if b then None else page_in event (class_of setup event))
    by_test true = tt
    by_test false = page_in_is event (class_of setup event) (shows_revision setup event)

chain_is : (pages : List Page) → Each (λ (page : Page). IsRevision page.revision) pages → (found : Checkpoint) → IsOfPages pages found → IsAtRevision found
chain_is pages each found (page, among, is) = subst IsAtRevision (sym is.is) (holds_of (λ (p : Page). IsRevision p.revision) pages page each among)

chains_at : (setup : Setup) (events : List Event) → AreAtRevisions (chains_of setup events)
chains_at setup events =
    let pages = pages_of setup events in
    let each = each_made (λ _. ⊤) (λ (page : Page). IsRevision page.revision) (page_of setup) (page_is setup) events (anything events) in
    each_mapped (IsOfPages pages) IsAtRevision (chain_is pages each) (chains_in pages) (chains_are pages)

few_made : {X Y : Type 0} (f : X → Option Y) (xs : List X) → length (filter_map f xs) ≤ length xs
few_made f [] = omega arith
few_made {X} {Y} f (x ∷ xs) = go (f x) refl (few_made f xs)
  where
    go : (o : Option Y) → f x ≡ o → length (filter_map f xs) ≤ length xs → length (filter_map f (x ∷ xs)) ≤ length (x ∷ xs)
    go None e few = rw e (omega (arith, few))
    go (Some y) e few = rw e (omega (arith, few))

-- each event is in one page at most, and each page begins one chain at most
pub few_chains : (setup : Setup) (events : List Event) → length (chains_of setup events) ≤ length events
few_chains setup events =
    let pages = few_made (page_of setup) events in
    let chains = few_made (chain_of (pages_of setup events)) (pages_of setup events) in
    omega (arith, pages, chains)

each_at : {X : Type 0} (P : X → Type 0) (xs : List X) (k : ℕ) (x : X) → Each P xs → slice_get xs k ≡ Some x → P x
each_at P [] k x each at = absurd (cc at)
each_at P (y ∷ ys) zero x each at = subst P (same_Some y x at) each.0
each_at P (y ∷ ys) (suc k) x each at = each_at P ys k x each.1 at

-- the checkpoints of a setup with the chains behind them
pub checkpoint_revision : (bytes : List ℕ) (setup : Setup) (events : List Event) (k : ℕ) (checkpoint : Checkpoint) → ReadsAs bytes (Ok setup)
    → slice_get (setup.checkpoints ++ chains_of setup events) k ≡ Some checkpoint → IsRevision checkpoint.revision
checkpoint_revision bytes setup events k checkpoint reads at =
    each_at IsAtRevision (setup.checkpoints ++ chains_of setup events) k checkpoint
    (each_append IsAtRevision setup.checkpoints (chains_of setup events) (read_are bytes setup reads) (chains_at setup events)) at
