-- The write whose answer shows a version, and its line.
use Rattle.std.proofs.Common.{◌≡◌, ◌≢◌, ℕ, ◌<◌, ◌⊎◌, inl, inr, List, [], ◌∷◌, length, Some, slice_get, AllPairs, Contains, refl, sym, ap, ◌∙◌, subst, arith}
use Rattle.std.proofs.lemmas.List.{length-map}
use Rattle.std.proofs.lemmas.Option.{same_Some, slice_get_within}
use Rattle.history_model.proofs.Fits.{same_event}
use Rattle.history_model.proofs.JudgingLemmas.{judged_once}
use Rattle.history_model.proofs.Members.{all_at, at_in, in_cons, not_in_none, pairs_head}
use Rattle.history_model.proofs.OneList.{first_making_same, key_same}
use Rattle.history_model.proofs.OutcomeLaw.{get_within}
use Rattle.history_model.proofs.WordLemmas.{same_making}
use Rattle.history_model.specs.Events.{Event}
use Rattle.history_model.specs.Groups.{Making, IsFirstMaking, IsKeyOf, IsMaking, IsMember}
use Rattle.history_model.specs.Histories as past
use Rattle.history_model.specs.Histories.{History, Maker, Snapshot, ByEvent, Unknown, IsEvent}
use Rattle.history_model.specs.Incarnations.{IsRemoval}
use Rattle.history_model.specs.Judging.{IsJudgedBefore}
use Rattle.history_model.specs.Machine.{event_line}
use Rattle.history_model.specs.Makers.{IsMadeVersion, IsShowing, IsSnapshotVersion}
use Rattle.history_model.specs.Readable.{IsReadable}
use Rattle.object_past.specs.Modelled.{maker_of, recorded, version_of}
use Rattle.object_past.specs.declared.removal.Removal.{Removal}
use Rattle.object_past.specs.declared.version.Maker.TheVariants as made_by
use Rattle.object_past.specs.declared.version.Version.{Version}
use Rattle.log_context.specs.Histories.{history_of}
use Rattle.log_context.specs.Known.{Known}
use Rattle.log_context.specs.Membered.{AreMembersAt, grouped, lacking}
use Rattle.write_groups.proofs.Lists.{map_has}
use Rattle.write_groups.specs.Members.{IsGroupOf}
use Rattle.write_groups.specs.Modelled.{event_of}
use Rattle.write_groups.specs.declared.groups.Group.{Group}
use Rattle.window_writes.specs.Turns.{IsFirstWriter, IsShownLine, IsShownBy}

-- the first of numbers that are in order stands before each other one
first_before : (R : ℕ → ℕ → Type 0) (numbers : List ℕ) (first number : ℕ) → AllPairs R numbers → slice_get numbers 0 ≡ Some first → Contains numbers number → (first ≡ number) ⊎ R first number
first_before R [] first number pairs e c = absurd (not_in_none c)
first_before R (x ∷ xs) first number pairs e c = go (in_cons x xs number c)
  where
    go : (x ≡ number) ⊎ Contains xs number → (first ≡ number) ⊎ R first number
    go (inl q) = inl (sym (same_Some x first e) ∙ q)
    go (inr d) = inr (subst (λ z. R z number) (same_Some x first e) (all_at (R x) xs number (pairs_head R x xs pairs) d))

some_number : (numbers : List ℕ) → numbers ≢ [] → 0 < length numbers
some_number [] some = absurd (some refl)
some_number (x ∷ xs) some = omega arith

-- the writes of the group of a version that was made
module _ (h : History) (r : IsReadable h) (v : past.Version) (made : IsMadeVersion h v) where
  pub members_some : (numbers : List ℕ) → AreMembersAt h v.revision numbers → 0 < length numbers
  members_some numbers (grouped group of_revision members g) = some_number numbers (λ e. g.some (members ∙ e))
  members_some numbers (lacking e none) = absurd (none b.m b.first.holds.making (let l = made.above in let q = b.first.holds.at_revision in omega (arith, l, q)) b.first.holds.at_revision)
    where
      b : IsKeyOf h v.revision v.key
      b = made.belongs

  same_group : (group : Group) → group.revision ≡ v.revision → IsGroupOf h group → group.key ≡ v.key
  same_group group e g = key_same h v.revision group.key v.key r (subst (λ n. IsKeyOf h n group.key) e g.belongs) made.belongs

  first_of_group : (group : Group) → group.revision ≡ v.revision → IsGroupOf h group → (first : ℕ) → slice_get group.members 0 ≡ Some first
      → (m : Making) × IsFirstMaking (IsMember h v.key v.revision) m × (m.number ≡ first)
  first_of_group group of_revision g first at = go (g.known first (at_in group.members 0 first at))
    where
      moved : (m : Making) → IsMember h group.key group.revision m → IsMember h v.key v.revision m
      moved m k = subst (λ n. IsMember h v.key n m) of_revision (subst (λ z. IsMember h z group.revision m) (same_group group of_revision g) k)

      back : (m : Making) → IsMember h v.key v.revision m → IsMember h group.key group.revision m
      back m k = subst (λ n. IsMember h group.key n m) (sym of_revision) (subst (λ z. IsMember h z v.revision m) (sym (same_group group of_revision g)) k)

      Before : ℕ → ℕ → Type 0
      Before a b = (x y : Event) → IsEvent h a x → IsEvent h b y → IsJudgedBefore x y

      go : (m : Making) × IsMember h group.key group.revision m × (m.number ≡ first) → (m : Making) × IsFirstMaking (IsMember h v.key v.revision) m × (m.number ≡ first)
      go (m, k, e) = (m, record { holds = moved m k; none_before = λ other o before. earlier other o before (first_before Before group.members first other.number g.order at (g.full other (back other o))) }, e)
        where
          here : IsEvent h first m.event
          here = subst (λ n. IsEvent h n m.event) e k.making.known

          earlier : (other : Making) → IsMember h v.key v.revision other → IsJudgedBefore other.event m.event → (first ≡ other.number) ⊎ Before first other.number → ⊥
          earlier other o before (inl q) = judged_once m.event m.event self self
            where
              self : IsJudgedBefore m.event m.event
              self = subst (λ (z : Event). IsJudgedBefore z m.event) (same_event h first other.event m.event (subst (λ n. IsEvent h n other.event) (sym q) o.making.known) here) before
          earlier other o before (inr l) = judged_once other.event m.event before (l m.event other.event here o.making.known)

  pub first_member : (numbers : List ℕ) (first : ℕ) → AreMembersAt h v.revision numbers → slice_get numbers 0 ≡ Some first
      → (m : Making) × IsFirstMaking (IsMember h v.key v.revision) m × (m.number ≡ first)
  first_member numbers first (grouped group of_revision members g) at = first_of_group group of_revision g first (ap (λ l. slice_get l 0) members ∙ at)
  first_member numbers first (lacking e none) at = absurd (let l = members_some numbers (lacking e none) in omega (arith, l, ap length e))

  showing_making : (maker : Maker) (m : Making) → IsShowing h v.key v.revision maker m → IsMaking h m
  showing_making Snapshot m s = absurd s
  showing_making (ByEvent number) m s = s.0.making
  showing_making Unknown m s = s.holds.making

  -- two writes that show the version are of one line
  pub showing_line : (maker : Maker) (a b : Making) → IsShowing h v.key v.revision maker a → IsShowing h v.key v.revision maker b → a.event.line ≡ b.event.line
  showing_line maker a b s t = ap (λ (e : Event). e.line) (same_making h a b (showing_making maker a s) (showing_making maker b t) (numbers maker s t)).0
    where
      numbers : (maker : Maker) → IsShowing h v.key v.revision maker a → IsShowing h v.key v.revision maker b → a.number ≡ b.number
      numbers Snapshot s t = absurd s
      numbers (ByEvent number) s t = s.1 ∙ sym t.1
      numbers Unknown s t = first_making_same h (IsMember h v.key v.revision) a b r (λ m k. k.making) s t

-- a version above the start was made
pub version_made : (known : Known) (i : ℕ) (version : Version) → IsReadable (history_of known) → slice_get known.versions i ≡ Some version → known.setup.start < version.revision
    → IsMadeVersion (history_of known) (version_of version)
version_made known i version r at above = go (r.versions.sound (version_of version) (map_has version_of known.versions version (at_in known.versions i version at)))
  where
    go : IsSnapshotVersion (history_of known) (version_of version) ⊎ IsMadeVersion (history_of known) (version_of version) → IsMadeVersion (history_of known) (version_of version)
    go (inl s) = absurd (let l = s.below in omega (arith, l, above))
    go (inr m) = m

known_event : (known : Known) (number : ℕ) (event : Event) → IsEvent (history_of known) number event → number < length known.log
known_event known number event k = let l = slice_get_within (history_of known).events number event k in omega (arith, l, length-map known.log event_of)

-- the event of a removal
pub removal_known : (known : Known) (i : ℕ) (removal : Removal) → IsReadable (history_of known) → slice_get known.removals i ≡ Some removal → removal.range.event < length known.log
removal_known known i removal r at = go (r.removals.sound (recorded removal) (map_has recorded known.removals removal (at_in known.removals i removal at)))
  where
    go : IsRemoval (history_of known) (recorded removal) → removal.range.event < length known.log
    go k = known_event known removal.range.event k.behind.event k.behind.first.known

pub event_here : (known : Known) (number : ℕ) → number < length known.log → (event : Event) × IsEvent (history_of known) number event
event_here known number l = get_within (history_of known).events number (omega (arith, l, length-map known.log event_of))

-- what a reader of lines says of one
pub line_there : (known : Known) (number line : ℕ) → number < length known.log → ((event : Event) → IsEvent (history_of known) number event → line ≡ event.line)
    → line ≡ event_line (slice_get (history_of known).events number)
line_there known number line l told = go (event_here known number l)
  where
    go : (event : Event) × IsEvent (history_of known) number event → line ≡ event_line (slice_get (history_of known).events number)
    go (event, k) = told event k ∙ sym (ap event_line k)

-- who shows a version
module _ (known : Known) (r : IsReadable (history_of known)) (version : Version) (made : IsMadeVersion (history_of known) (version_of version)) where
  pub by_event : (number : ℕ) → version.maker ≡ made_by.Event number → IsShownBy known version number
  by_event number is = record { m = made.m; shown = made.shown; of_number = by.1 }
    where
      by : IsMember (history_of known) version.key version.revision made.m × (made.m.number ≡ number)
      by = subst (λ maker. IsShowing (history_of known) version.key version.revision (maker_of maker) made.m) is made.shown

  pub not_snapshot : version.maker ≡ made_by.Snapshot → ⊥
  not_snapshot is = subst (λ maker. IsShowing (history_of known) version.key version.revision (maker_of maker) made.m) is made.shown

  pub by_first : (number : ℕ) → version.maker ≡ made_by.Unknown → IsFirstWriter known version number → IsShownBy known version number
  by_first number is first = record {
    m = first.m;
    shown = subst (λ maker. IsShowing (history_of known) version.key version.revision (maker_of maker) first.m) (sym is) first.first;
    of_number = first.of_number;
  }

  pub first_is : (numbers : List ℕ) (first : ℕ) → AreMembersAt (history_of known) version.revision numbers → slice_get numbers 0 ≡ Some first → IsFirstWriter known version first
  first_is numbers first members at = let f = first_member (history_of known) r (version_of version) made numbers first members at in record { m = f.0; first = f.1; of_number = f.2 }

  shown_event : (number : ℕ) (s : IsShownBy known version number) → IsEvent (history_of known) number s.m.event
  shown_event number s = subst (λ n. IsEvent (history_of known) n s.m.event) s.of_number (showing_making (history_of known) r (version_of version) made (maker_of version.maker) s.m s.shown).known

  pub shown_known : (number : ℕ) → IsShownBy known version number → number < length known.log
  shown_known number s = known_event known number s.m.event (shown_event number s)

  pub shown_line : (number line : ℕ) → IsShownBy known version number → ((event : Event) → IsEvent (history_of known) number event → line ≡ event.line) → IsShownLine known version line
  shown_line number line s told = record { m = s.m; shown = s.shown; of_line = told s.m.event (shown_event number s) }
