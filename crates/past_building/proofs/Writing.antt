-- Versions that are written group by group are those of each history that goes on with them.
use Rattle.std.proofs.Common.{◌≡◌, ℕ, ◌+◌, ◌<◌, ◌≤◌, ◌⊎◌, inl, inr, ⊎_elim, List, [], ◌∷◌, ◌++◌, map, take, length, get_or, Option, Some, None, option_map, Bor, refl, sym, ap, ◌∙◌, subst, arith}
use Rattle.std.specs.Prelude.{IsSome, Bool, true, false, is_none, All, AllPairs, Contains, find}
use Rattle.std.specs.List.Sorted.{IsPermutation}
use Rattle.std.proofs.lemmas.List.{take_more, map-append, append-nil}
use Rattle.std.proofs.lemmas.List.Elements.{All-append, Contains-append_left, Contains-append_right, Contains-push_cases}
use Rattle.std.proofs.lemmas.List.Sorted.{Contains-permutation, IsPermutation-sym}
use Rattle.std.proofs.lemmas.Option.{same_Some}
use Rattle.base_types.specs.declared.kubernetes.key.ObjectKey.{ObjectKey}
use Rattle.history_model.proofs.Members.{all_at, all_from, in_cons, not_in_none, pairs_head}
use Rattle.history_model.specs.Events as event
use Rattle.history_model.specs.Groups.{Making}
use Rattle.history_model.specs.Histories as past
use Rattle.history_model.specs.Makers.{AreVersions, IsMadeVersion, IsSnapshotVersion, item_of as item_in}
use Rattle.write_groups.specs.Members.{AreGroupsOf, IsGroupOf}
use Rattle.write_groups.specs.Modelled.{HasEvents, item_of}
use Rattle.write_groups.specs.declared.event.Item.{Item}
use Rattle.write_groups.specs.declared.event.LogEvent.{LogEvent}
use Rattle.write_groups.specs.declared.groups.Group.{Group}
use Rattle.object_past.specs.Modelled.{version_of}
use Rattle.object_past.specs.declared.version.Version.{Version}
use Rattle.past_building.proofs.Growth.{AreGrown, grown_below, grown_more, version_of_group}
use Rattle.past_building.proofs.Keeping.{rising_in}
use Rattle.object_past.proofs.Looking.{from_map, in_map}
use Rattle.past_building.proofs.Mapped.{any_in, in_any, before_in, found_in, in_more, joined, map_twice, pairs_behind, zip_left, zip_push}
use Rattle.past_building.proofs.Numbered.{making_from, number_is}
use Rattle.write_groups.specs.Grouped.{item_at}
use Rattle.base_types.specs.declared.verdict.claim.Reason.{Reason}
use Rattle.past_building.specs.Chosen.{first_able, first_maker, maker_among, must_have_made, or_maker, shown_by, unseen_maker}
use Rattle.past_building.specs.Removals.{or_first}
use Rattle.past_building.specs.Written.{making_at, snapshot_version, AreAllJudged, AreJudged, Extends, IsAnsweredAt, IsJudgedAt, IsJudgement, IsSnapshot}
use Rattle.past_building.specs.declared.maker.JudgedWrite.{JudgedWrite}

-- the first versions of a history's are these
pub record GoesOn (h : past.History) (done : List Version) : Type 0 where
  pub later : List past.Version
  pub whole : h.versions ≡ map version_of done ++ later
  pub rising : AllPairs (λ a b. a.revision < b.revision) h.versions

with_last : (done : List Version) (v : Version) (later : List past.Version) → map version_of (done ++ v ∷ []) ++ later ≡ map version_of done ++ version_of v ∷ later
with_last done v later = ap (λ l. l ++ later) (map-append version_of done (v ∷ [])) ∙ joined (map version_of done) (version_of v ∷ []) later

pub goes_on_before : (h : past.History) (done : List Version) (v : Version) → GoesOn h (done ++ v ∷ []) → GoesOn h done
goes_on_before h done v on = record { later = version_of v ∷ on.later; whole = on.whole ∙ with_last done v on.later; rising = on.rising }

-- a history that goes on with one more version has the others below its revision
pub extends : (h : past.History) (done : List Version) (v : Version) (revision : ℕ) → GoesOn h (done ++ v ∷ []) → v.revision ≡ revision → 0 < revision
    → All (λ w. w.revision < revision) done → Extends h done revision
extends h done v revision on at positive below = record {
  positive = positive;
  later = version_of v ∷ on.later;
  whole = on.whole ∙ with_last done v on.later;
  rising = on.rising;
  below = below;
  behind = all_from (λ w. revision ≤ w.revision) (version_of v ∷ on.later) (λ w among. ⊎_elim
      (λ is. let e = ap (λ (x : past.Version). x.revision) is in omega (arith, at, e))
      (λ later. let up : v.revision < w.revision = all_at (λ (x : past.Version). v.revision < x.revision) on.later w (pairs_head (λ a b. a.revision < b.revision) (version_of v) on.later behind) later in omega (arith, at, up))
      (in_cons (version_of v) on.later w among));
}
  where
    behind : AllPairs (λ a b. a.revision < b.revision) (version_of v ∷ on.later)
    behind = pairs_behind (λ a b. a.revision < b.revision) (map version_of done) (version_of v ∷ on.later)
        (subst (AllPairs (λ a b. a.revision < b.revision)) (on.whole ∙ with_last done v on.later) on.rising)

-- the versions of a snapshot rise
pub begun_below : (order : List (Bor Item)) (i : ℕ) (item : Bor Item) (grown : List Version) (v : Version) → AllPairs (λ a b. a.now.revision < b.now.revision) order
    → i < length order → get_or order i item ≡ item → grown ≡ map (λ x. snapshot_version x.now) (take i order) → v ≡ snapshot_version item.now
    → All (λ w. w.revision < v.revision) grown
begun_below order i item grown v rising within is grown_is v_is = all_from (λ w. w.revision < v.revision) grown (λ w among.
    let from = from_map (λ (x : Bor Item). snapshot_version x.now) (take i order) w (subst (λ l. Contains l w) grown_is among) in
    let below : from.0.now.revision < item.now.revision = before_in (λ (a b : Bor Item). a.now.revision < b.now.revision) order i item rising within is from.0 from.1 in
    let left = ap (λ (x : Version). x.revision) from.2 in
    let right = ap (λ (x : Version). x.revision) v_is in
    omega (arith, below, left, right))

-- the judgements of one more group
pub all_judged_more : (h : past.History) (events : List LogEvent) (groups : List Group) (i : ℕ) (group : Group) (judged more : List JudgedWrite) → i < length groups → get_or groups i group ≡ group
    → AreAllJudged h events (take i groups) judged → AreJudged h events group.members more → map (λ one. one.number) more ≡ group.members
    → AreAllJudged h events (take (i + 1) groups) (judged ++ more)
all_judged_more h events groups i group judged more within is before zipped numbers = record {
  sound = All-append (λ one. IsJudgedAt h events one.number one) judged more before.sound
      (all_from (λ one. IsJudgedAt h events one.number one) more (λ one among.
      let found = zip_left (IsJudgedAt h events) group.members more one zipped among in
      subst (λ n. IsJudgedAt h events n one) (sym found.2.0) found.2));
  full = λ g number among member. ⊎_elim
      (λ earlier. let found = any_in (λ one. one.number ≡ number) judged (before.full g number earlier member) in
      in_any (λ one. one.number ≡ number) (judged ++ more) found.0 (Contains-append_left judged more found.0 found.1) found.2)
      (λ this. let found = from_map (λ (one : JudgedWrite). one.number) more number (subst (λ l. Contains l number) (sym numbers) (subst (λ (x : Group). Contains x.members number) (sym this) member)) in
      in_any (λ one. one.number ≡ number) (judged ++ more) found.0 (Contains-append_right judged more found.0 found.1) found.2)
      (in_more groups i group within is g among);
}

-- the writes of a group are answered with its revision
pub answered : (h : past.History) (events : List LogEvent) (group : Group) → HasEvents events h → IsGroupOf h group → All (IsAnsweredAt events group.key group.revision) group.members
answered h events group all grouped = all_from (IsAnsweredAt events group.key group.revision) group.members (λ number among.
    let known = grouped.known number among in
    (known.0, subst (λ n. making_at events n ≡ Some known.0) known.2 (making_from h events known.0 all known.1.making), known.1.of_key, known.1.at_revision))

abbrev pub AreMade : past.History → (begun versions : List Version) → Type 0
AreMade h begun versions = All (λ v. Contains begun v ⊎ IsMadeVersion h (version_of v)) versions

pub made_more : (h : past.History) (begun versions : List Version) (v : Version) → AreMade h begun versions → IsMadeVersion h (version_of v) → AreMade h begun (versions ++ v ∷ [])
made_more h begun versions v made new = all_from (λ w. Contains begun w ⊎ IsMadeVersion h (version_of w)) (versions ++ v ∷ []) (λ w among. ⊎_elim
    (λ before. all_at (λ x. Contains begun x ⊎ IsMadeVersion h (version_of x)) versions w made before)
    (λ is. inr (subst (λ x. IsMadeVersion h (version_of x)) is new))
    (Contains-push_cases versions v w among))

-- the versions that were found, and each write judged
pub record AreWritten (h : past.History) (events : List LogEvent) (begun : List Version) (groups : List Group) (versions : List Version) (judged : List JudgedWrite) : Type 0 where
  pub made : AreMade h begun versions
  pub all : AreAllJudged h events groups judged

-- a history has no versions but these
pub goes_on_to : (h : past.History) (versions : List Version) → AllPairs (λ a b. a.revision < b.revision) versions → h.versions ≡ map version_of versions → GoesOn h versions
goes_on_to h versions rising is = record {
  later = [];
  whole = is ∙ sym (append-nil (map version_of versions));
  rising = subst (AllPairs (λ a b. a.revision < b.revision)) (sym is) (rising_in versions rising);
}

pub are_versions : (h : past.History) (snapshot items : List Item) (groups : List Group) (versions : List Version) → AllPairs (λ a b. a.revision < b.revision) versions
    → AreGroupsOf h groups → IsSnapshot h.start snapshot → IsPermutation snapshot items → h.snapshot ≡ map item_of snapshot → h.versions ≡ map version_of versions
    → AreGrown (map snapshot_version items) groups versions → AreMade h (map snapshot_version items) versions → AreVersions h
are_versions h snapshot items groups versions rising grouped is_snapshot same snapshot_is versions_is grown made = record {
  rising = subst (AllPairs (λ a b. a.revision < b.revision)) (sym versions_is) (rising_in versions rising);
  sound = λ v among. sound_at v (from_map version_of versions v (subst (λ l. Contains l v) versions_is among));
  full_snapshot = λ item among. snapshot_at item (from_map item_of snapshot item (subst (λ l. Contains l item) snapshot_is among));
  full_log = λ m making above. log_at m (any_in (λ group. group.revision ≡ m.item.revision) groups (grouped.full m making above));
}
  where
    begun : (item : Item) → Contains items item → IsSnapshotVersion h (version_of (snapshot_version item))
    begun item among =
        let listed : Contains snapshot item = Contains-permutation items snapshot item (IsPermutation-sym snapshot items same) among in
        record {
          below = all_at (λ (i : Item). i.revision ≤ h.start) snapshot item is_snapshot.below listed;
          maker = refl;
          listed = subst (λ l. Contains l (item_of item)) (sym snapshot_is) (in_map item_of snapshot item listed);
        }

    among_versions : (v : Version) → Contains versions v → Contains h.versions (version_of v)
    among_versions v among = subst (λ l. Contains l (version_of v)) (sym versions_is) (in_map version_of versions v among)

    sound_at : (v : past.Version) → (w : Version) × Contains versions w × (version_of w ≡ v) → IsSnapshotVersion h v ⊎ IsMadeVersion h v
    sound_at v (w, among, is) = ⊎_elim
        (λ before. let item = from_map snapshot_version items w before in
        inl (subst (IsSnapshotVersion h) (ap version_of item.2 ∙ is) (begun item.0 item.1)))
        (λ new. inr (subst (IsMadeVersion h) is new))
        (all_at (λ x. Contains (map snapshot_version items) x ⊎ IsMadeVersion h (version_of x)) versions w made among)

    snapshot_at : (item : event.Item) → (i : Item) × Contains snapshot i × (item_of i ≡ item) → (v : past.Version) × Contains h.versions v × (item_in v ≡ item)
    snapshot_at item (i, among, is) = (
      version_of (snapshot_version i),
      among_versions (snapshot_version i) (subst (λ l. Contains l (snapshot_version i)) (sym grown.all)
          (Contains-append_left (map snapshot_version items) grown.made (snapshot_version i) (in_map snapshot_version items i (Contains-permutation snapshot items i same among)))),
      is,
    )

    log_at : (m : Making) → (g : Group) × Contains groups g × (g.revision ≡ m.item.revision) → (v : past.Version) × Contains h.versions v × (v.revision ≡ m.item.revision)
    log_at m (g, among, is) =
        let found = version_of_group groups grown.made grown.each g among in (
          version_of found.0,
          among_versions found.0 (subst (λ l. Contains l found.0) (sym grown.all) (Contains-append_right (map snapshot_version items) grown.made found.0 found.1)),
          found.2.of_revision ∙ is,
        )

-- what is known before the first group
pub begun_grown : (order : List (Bor Item)) (grown : List Version) → grown ≡ map (λ item. snapshot_version item.now) order
    → AreGrown (map snapshot_version (map (λ item. item.now) order)) [] grown
begun_grown order grown is = record {
  made = [];
  all = is ∙ sym (map_twice snapshot_version (λ item. item.now) order) ∙ sym (append-nil (map snapshot_version (map (λ item. item.now) order)));
  each = tt;
}

pub begun_written : (h : past.History) (events : List LogEvent) (order : List (Bor Item)) (grown : List Version) → grown ≡ map (λ item. snapshot_version item.now) order
    → AreWritten h events (map snapshot_version (map (λ item. item.now) order)) [] grown []
begun_written h events order grown is = record {
  made = all_from (λ v. Contains begun v ⊎ IsMadeVersion h (version_of v)) grown (λ v among. inl (subst (λ l. Contains l v) (is ∙ sym (map_twice snapshot_version (λ item. item.now) order)) among));
  all = record { sound = λ k d within. absurd (omega (arith, within)); full = λ group number among member. absurd (not_in_none among) };
}
  where
    begun : List Version
    begun = map snapshot_version (map (λ item. item.now) order)

-- one group more
pub written_more : (h : past.History) (events : List LogEvent) (begun : List Version) (groups : List Group) (i : ℕ) (group : Group) (versions : List Version) (v : Version) (judged more : List JudgedWrite)
    → i < length groups → get_or groups i group ≡ group → AreWritten h events begun (take i groups) versions judged → IsMadeVersion h (version_of v)
    → AreJudged h events group.members more → map (λ one. one.number) more ≡ group.members
    → AreWritten h events begun (take (i + 1) groups) (versions ++ v ∷ []) (judged ++ more)
written_more h events begun groups i group versions v judged more within is written made zipped numbers = record {
  made = made_more h begun versions v written.made made;
  all = all_judged_more h events groups i group judged more within is written.all zipped numbers;
}

pub grown_with : (begun : List Version) (groups : List Group) (i : ℕ) (group : Group) (versions : List Version) (v : Version) → i < length groups → get_or groups i group ≡ group
    → AreGrown begun (take i groups) versions → v.key ≡ group.key → v.revision ≡ group.revision → AreGrown begun (take (i + 1) groups) (versions ++ v ∷ [])
grown_with begun groups i group versions v within is grown key revision =
    subst (λ l. AreGrown begun l (versions ++ v ∷ [])) (sym (take_more groups i group within ∙ ap (λ g. take i groups ++ g ∷ []) is))
    (grown_more begun (take i groups) versions group v grown (record { of_key = key; of_revision = revision }))

-- the versions before a group are below it
pub before_group : (start : ℕ) (snapshot items : List Item) (groups : List Group) (i : ℕ) (group : Group) (versions : List Version) → IsSnapshot start snapshot → IsPermutation snapshot items
    → AllPairs (λ a b. a.revision < b.revision) groups → All (λ g. start < g.revision) groups → i < length groups → get_or groups i group ≡ group
    → AreGrown (map snapshot_version items) (take i groups) versions → All (λ v. v.revision < group.revision) versions
before_group start snapshot items groups i group versions is_snapshot same rising above within is grown =
    grown_below start items (take i groups) versions group grown
    (all_from (λ (item : Item). item.revision ≤ start) items (λ item among. all_at (λ (x : Item). x.revision ≤ start) snapshot item is_snapshot.below
    (Contains-permutation items snapshot item (IsPermutation-sym snapshot items same) among)))
    (all_at (λ (g : Group). start < g.revision) groups group above (i, within, is))
    (all_from (λ (g : Group). g.revision < group.revision) (take i groups) (before_in (λ (a b : Group). a.revision < b.revision) groups i group rising within is))

-- judgements of writes are of writes
pub shown_write : (events : List LogEvent) (finding : ℕ → Option Reason) (judged : List JudgedWrite) (first : ℕ) (may : Bool) → All (λ n. IsSome (item_at events n)) (map (λ j. j.number) judged)
    → option_map (λ one. one.number) (find (λ one. true) judged) ≡ Some first → IsSome (item_at events (shown_by first (maker_among finding judged first may)))
shown_write events finding judged first may writes head = go (first_maker finding judged) (found_write (must_have_made finding)) (first_able judged) (found_write (λ j. is_none j.making)) may
  where
    found_write : (test : JudgedWrite → Bool) (n : ℕ) → option_map (λ one. one.number) (find test judged) ≡ Some n → IsSome (item_at events n)
    found_write test n = of (find test judged) (found_in test judged)
      where
        of : (o : Option JudgedWrite) → ((x : JudgedWrite) → o ≡ Some x → Contains judged x) → option_map (λ one. one.number) o ≡ Some n → IsSome (item_at events n)
        of None known is = absurd (cc is)
        of (Some j) known is = subst (λ k. IsSome (item_at events k)) (same_Some j.number n is)
            (all_at (λ k. IsSome (item_at events k)) (map (λ (x : JudgedWrite). x.number) judged) j.number writes (in_map (λ (x : JudgedWrite). x.number) judged j (known j refl)))

    go : (a : Option ℕ) → ((n : ℕ) → a ≡ Some n → IsSome (item_at events n)) → (b : Option ℕ) → ((n : ℕ) → b ≡ Some n → IsSome (item_at events n)) → (t : Bool)
        → IsSome (item_at events (shown_by first (or_maker (or_first a b) (unseen_maker first t))))
    go (Some n) made b able t = made n refl
    go None made (Some n) able t = able n refl
    go None made None able true = found_write (λ j. true) first head
    go None made None able false = found_write (λ j. true) first head

-- the judgement of one more write
pub each_more : (h : past.History) (events : List LogEvent) (members : List ℕ) (i d : ℕ) (judged : List JudgedWrite) (m : Making) (one : JudgedWrite) → i < length members
    → making_at events (get_or members i d) ≡ Some m → one.number ≡ m.number → IsJudgement h m one → AreJudged h events (take i members) judged
    → AreJudged h events (take (i + 1) members) (judged ++ one ∷ [])
each_more h events members i d judged m one within at number judgement done =
    subst (λ l. AreJudged h events l (judged ++ one ∷ [])) (sym (take_more members i d within))
    (zip_push (IsJudgedAt h events) (take i members) judged (get_or members i d) one done (number ∙ number_is events (get_or members i d) m at, (m, at, judgement)))

pub same_revision : (events : List LogEvent) (key : ObjectKey) (revision number : ℕ) (m : Making) → making_at events number ≡ Some m → IsAnsweredAt events key revision number → m.item.revision ≡ revision
same_revision events key revision number m at (other, known, of_key, is) = ap (λ (x : Making). x.item.revision) (same_Some m other (sym at ∙ known)) ∙ is

pub same_item_key : (events : List LogEvent) (key : ObjectKey) (revision number : ℕ) (m : Making) → making_at events number ≡ Some m → IsAnsweredAt events key revision number → m.item.key ≡ key
same_item_key events key revision number m at (other, known, of_key, is) = ap (λ (x : Making). x.item.key) (same_Some m other (sym at ∙ known)) ∙ of_key
