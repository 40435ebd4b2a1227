use Rattle.std.proofs.Common.{◌≡◌, ◌++◌, ◌∷◌, [], true, sym, ap, ◌∙◌, subst}
use Rattle.std.specs.Prelude.{◌↔◌, IsTrue}
use Rattle.std.specs.HashSet as set
use Rattle.past_building.proofs.Keeping.{IsOwned, continued, begun, kept_more}
use Rattle.past_building.specs.Growing.{AddsUid, AreFlagged, AreVersionsKept, IsContinued, IsFirst, IsLastAt}
use Rattle.past_building.specs.declared.grown.Index.{Index}
use Rattle.past_building.specs.Owners.{owner_eq, owner_of}
use Rattle.past_building.proofs.grown.Index.add.Goals as goal
use Rattle.past_building.proofs.grown.Index.add.Goals.{in-Some, in-None+in_ok-add_uid-in-None+in_ok-is_first-in-None}

pub continued-requires-clause-rising : goal.continued-requires-clause-rising
continued-requires-clause-rising c = c.requires.kept.rising

pub continued-requires-clause-flagged : goal.continued-requires-clause-flagged
continued-requires-clause-flagged c = subst (AreFlagged c.args.versions.now) (sym c.deref.ensures.value) c.requires.kept.flagged

pub continued-requires-clause-last : goal.continued-requires-clause-last
continued-requires-clause-last c = subst (IsLastAt c.args.versions.now c.args.version.now.key) (sym c.in_ok-before.ensures.before) (c.requires.kept.last_of c.args.version.now.key)

pub returns : goal.returns
returns c =
    let versions = c.args.versions.now in
    let version = c.args.version.now in
    let old = c.args.self.now in
    let index = c.match-continued.self in
    let is_first = c.match-continued.is_first in
    let before = c.in_ok-before.before in
    let firsts : index.firsts ≡ old.firsts = elim c.match-continued.branch [
      | in-Some w ↦ ap (λ (i : Index). i.firsts) w.self-is
      | in-None+in_ok-add_uid-in-None+in_ok-is_first-in-None w ↦ ap (λ (i : Index). i.firsts) w.self-is
    ] in
    let earlier : index.earlier ≡ old.earlier = elim c.match-continued.branch [
      | in-Some w ↦ ap (λ (i : Index). i.earlier) w.self-is
      | in-None+in_ok-add_uid-in-None+in_ok-is_first-in-None w ↦ ap (λ (i : Index). i.earlier) w.self-is
    ] in
    let last : index.last ≡ c.put_last.new.last = elim c.match-continued.branch [
      | in-Some w ↦ ap (λ (i : Index). i.last) w.self-is
      | in-None+in_ok-add_uid-in-None+in_ok-is_first-in-None w ↦ ap (λ (i : Index). i.last) w.self-is
    ] in
    let owned : IsOwned versions version old.owners index.owners old.uids index.uids is_first = elim c.match-continued.branch [
      | in-Some w ↦
          let known = subst (IsContinued versions version) w.in-Some.is c.continued.ensures in
          continued known.0 known.1 known.2 (subst (λ b. IsTrue b ↔ IsFirst versions known.0) (sym w.is_first-is) known.3)
          (ap (λ (i : Index). i.owners) w.self-is) (ap (λ (i : Index). i.uids) w.self-is)
      | in-None+in_ok-add_uid-in-None+in_ok-is_first-in-None w ↦
          begun (subst (IsContinued versions version) w.in-None.is c.continued.ensures) (w.is_first-is ∙ w.in_ok-is_first-in-None.ensures.added)
          (subst (λ o. set.Updates owner_eq old.owners o (owner_of version) true) (sym (ap (λ (i : Index). i.owners) w.self-is)) w.in_ok-is_first-in-None.ensures.put)
          (subst (λ s. AddsUid old.uids s version.uid) (sym (ap (λ (i : Index). i.uids) w.self-is)) w.in_ok-add_uid-in-None.ensures)
    ] in
    let kept = kept_more versions old.firsts.items old.earlier.items old.last c.put_last.new.last old.owners index.owners old.uids index.uids
    version before is_first c.requires.kept c.requires.above c.in_ok-before.ensures.before c.in_ok-before.ensures.put owned in
    let put = subst (λ l. AreVersionsKept (versions ++ version ∷ []) (old.firsts.items ++ is_first ∷ []) (old.earlier.items ++ before ∷ []) l index.owners index.uids) (sym last) kept in
    let flags : c.push.new.self.items ≡ old.firsts.items ++ is_first ∷ [] = c.in_ok-push.ensures.items ∙ ap (λ l. l.items ++ is_first ∷ []) firsts in
    let links : c.push-2.new.self.items ≡ old.earlier.items ++ before ∷ [] = c.in_ok-push-2.ensures.items ∙ ap (λ l. l.items ++ before ∷ []) earlier in
    subst (λ l. AreVersionsKept (versions ++ version ∷ []) l c.push-2.new.self.items index.last index.owners index.uids) (sym flags)
    (subst (λ l. AreVersionsKept (versions ++ version ∷ []) (old.firsts.items ++ is_first ∷ []) l index.last index.owners index.uids) (sym links) put)
