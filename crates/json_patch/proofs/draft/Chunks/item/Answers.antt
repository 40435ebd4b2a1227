use Rattle.std.proofs.Common.{◌≡◌, ◌<◌, length, get_or, Some, IfSome, sym, subst}
use Rattle.base_types.specs.Pointers.{index_of}
use Rattle.base_types.proofs.Indices.{item_read}
use Rattle.json_patch.specs.Joined.{IsPlaceIn, number_of}
use Rattle.json_patch.proofs.Joins.{number_within, read_at}
use Rattle.json_patch.proofs.draft.Chunks.item.Goals as goal

pub returns-in-Some-clause-item : goal.returns-in-Some-clause-item
returns-in-Some-clause-item c =
    let parts = c.self.inside.parts.items in
    let place = c.in-Some.place in
    let all = c.part.inside.all.items in
    let found = c.in_ok-place.ensures in
    let t = c.index.result.now in
    let here : IsPlaceIn parts place = subst (λ ps. IsPlaceIn ps place) c.deref.ensures.value (subst (λ o. IfSome o (IsPlaceIn c.deref.result.now)) c.in-Some.is found.place) in
    let number : index_of c.args.token.now ≡ Some (number_of parts place) =
    subst (λ ps. index_of c.args.token.now ≡ Some (number_of ps place)) c.deref.ensures.value
    (subst (λ o. IfSome o (λ p. index_of c.args.token.now ≡ Some (number_of c.deref.result.now p))) c.in-Some.is found.number) in
    let is = subst (λ p. p ≡ get_or parts place.part p) (sym c.part.view_is) c.index-part.ensures in
    let read = subst (λ l. t ≡ get_or l (number_of parts place) t) c.self.view_is (read_at parts place all t here is c.index.ensures) in
    let within = subst (λ l. number_of parts place < length l) c.self.view_is (number_within parts place here) in
    item_read c.args.self.now (number_of parts place) (index_of c.args.token.now) t number within read
