-- Events that are equal in all but the line, and what is kept of them.
use Rattle.std.proofs.Common.{◌≡◌, ℕ, suc, zero, ◌+◌, inl, inr, List, [], ◌∷◌, ◌++◌, Option, Some, None, Ok, Err, Contains, refl, sym, ◌∙◌, ap, subst, arith}
use Rattle.std.proofs.lemmas.List.Elements.{All-cons, All-nil, Contains-append_right, Contains-get_or}
use Rattle.line_reader.specs.Lines.{NumberedLine}
use Rattle.line_reader.proofs.LineFacts.{All-head, All-tail}
use Rattle.audit_event.specs.declared.event.Event.{Event}
use Rattle.audit_event.specs.Keeping.{AreOfOneStage, SameButLine, WasKept}
use Rattle.batch_decode.specs.declared.decoded.Decoded.{Decoded}
use Rattle.batch_decode.specs.declared.decoded.ItemFault.{ItemFault}
use Rattle.log_intake.specs.Log.{IsNew, LogState, TakesDecoded, TakesEvent, TakesLine, numbered_events, unless_fault as state_unless}
use Rattle.log_intake.specs.Steps.{InOrder}
use Rattle.log_sift.specs.Sift.{KeepsDecoded, KeepsEvent, KeepsLine, behind_events}
use Rattle.log_sift.specs.Taken.{AreSameButLine}

-- an event is equal to itself on another line
pub same_line : (event : Event) (number : ℕ) → SameButLine record event { line = number } event
same_line event number = record {
  origin = record { audit_id = refl; stage = refl; level = refl; received = refl; staged = refl };
  request = record {
    path = record { verb = refl; path = refl; is_resource = refl; group = refl; version = refl };
    object = record { resource = refl; subresource = refl; namespace = refl; name = refl; query = refl };
    user = refl;
    impersonated = refl;
    request = refl;
  };
  answer = record { status = refl; response = refl; decision = refl };
}

pub same_back : (a b : Event) → SameButLine a b → SameButLine b a
same_back a b s = record {
  origin = record { audit_id = sym s.origin.audit_id; stage = sym s.origin.stage; level = sym s.origin.level; received = sym s.origin.received; staged = sym s.origin.staged };
  request = record {
    path = record { verb = sym s.request.path.verb; path = sym s.request.path.path; is_resource = sym s.request.path.is_resource; group = sym s.request.path.group; version = sym s.request.path.version };
    object = record { resource = sym s.request.object.resource; subresource = sym s.request.object.subresource; namespace = sym s.request.object.namespace; name = sym s.request.object.name; query = sym s.request.object.query };
    user = sym s.request.user;
    impersonated = sym s.request.impersonated;
    request = sym s.request.request;
  };
  answer = record { status = sym s.answer.status; response = sym s.answer.response; decision = sym s.answer.decision };
}

pub same_both : (a b c : Event) → SameButLine a b → SameButLine b c → SameButLine a c
same_both a b c s t = record {
  origin = record {
    audit_id = s.origin.audit_id ∙ t.origin.audit_id;
    stage = s.origin.stage ∙ t.origin.stage;
    level = s.origin.level ∙ t.origin.level;
    received = s.origin.received ∙ t.origin.received;
    staged = s.origin.staged ∙ t.origin.staged;
  };
  request = record {
    path = record {
      verb = s.request.path.verb ∙ t.request.path.verb;
      path = s.request.path.path ∙ t.request.path.path;
      is_resource = s.request.path.is_resource ∙ t.request.path.is_resource;
      group = s.request.path.group ∙ t.request.path.group;
      version = s.request.path.version ∙ t.request.path.version;
    };
    object = record {
      resource = s.request.object.resource ∙ t.request.object.resource;
      subresource = s.request.object.subresource ∙ t.request.object.subresource;
      namespace = s.request.object.namespace ∙ t.request.object.namespace;
      name = s.request.object.name ∙ t.request.object.name;
      query = s.request.object.query ∙ t.request.object.query;
    };
    user = s.request.user ∙ t.request.user;
    impersonated = s.request.impersonated ∙ t.request.impersonated;
    request = s.request.request ∙ t.request.request;
  };
  answer = record {
    status = s.answer.status ∙ t.answer.status;
    response = s.answer.response ∙ t.answer.response;
    decision = s.answer.decision ∙ t.answer.decision;
  };
}

pub same_stage : (a b : Event) → SameButLine a b → AreOfOneStage a b
same_stage a b same = λ i. record { audit_id = same.origin.audit_id i; stage = same.origin.stage i }

same_push : (xs ys : List Event) (x y : Event) → AreSameButLine xs ys → SameButLine x y → AreSameButLine (xs ++ x ∷ []) (ys ++ y ∷ [])
same_push [] [] x y are same = (same, tt)
same_push [] (b ∷ ys) x y are same = absurd are
same_push (a ∷ xs) [] x y are same = absurd are
same_push (a ∷ xs) (b ∷ ys) x y are same = (are.0, same_push xs ys x y are.1 same)

pub partner : (xs ys : List Event) (x : Event) → AreSameButLine xs ys → Contains xs x → (y : Event) × Contains ys y × SameButLine x y
partner [] ys x are (i, within, is) = absurd (omega (arith, within))
partner (a ∷ xs) [] x are among = absurd are
partner (a ∷ xs) (b ∷ ys) x are (zero, within, is) = (b, Contains-get_or (b ∷ ys) 0 b (omega arith), subst (λ e. SameButLine e b) is are.0)
partner (a ∷ xs) (b ∷ ys) x are (suc i, within, is) =
    let there = partner xs ys x are.1 (i, omega (arith, within), is) in
    (there.0, Contains-append_right (b ∷ []) ys there.0 there.1, there.2)

new_same : (xs ys : List Event) (e f : Event) → AreSameButLine xs ys → SameButLine e f → IsNew xs e → IsNew ys f
new_same [] [] e f are same new = All-nil (λ other. ¬ AreOfOneStage other f)
new_same [] (b ∷ ys) e f are same new = absurd are
new_same (a ∷ xs) [] e f are same new = absurd are
new_same (a ∷ xs) (b ∷ ys) e f are same new =
    All-cons (λ other. ¬ AreOfOneStage other f) b ys
    (λ one. All-head (λ (other : Event). ¬ AreOfOneStage other e) a xs new (same_stage a b are.0 ∙ one ∙ sym (same_stage e f same)))
    (new_same xs ys e f are.1 same (All-tail (λ (other : Event). ¬ AreOfOneStage other e) a xs new))

pub event_same : (xs ys next : List Event) (event : Event) (number : ℕ) → AreSameButLine xs ys → TakesEvent xs record event { line = number } (Ok next)
    → (after : List Event) × KeepsEvent ys event (Ok after) × AreSameButLine next after
event_same xs ys next event number are (inl (new, few, is)) =
    let now : Event = record event { line = number } in
    let moved : SameButLine now event = same_line event number in
    (ys ++ event ∷ [], inl (new_same xs ys now event are moved new, refl), subst (λ kept. AreSameButLine kept (ys ++ event ∷ [])) (sym is) (same_push xs ys now event are moved))
event_same xs ys next event number are (inr ((earlier, was, same), is)) =
    let now : Event = record event { line = number } in
    let there = partner xs ys earlier are was.among in
    let other : SameButLine there.0 event = same_both there.0 earlier event (same_back earlier there.0 there.2) (same_both earlier now event same (same_line event number)) in
    let found : WasKept ys event there.0 = record { among = there.1; one = same_stage there.0 event other } in
    (ys, inr ((there.0, found, other), refl), subst (λ kept. AreSameButLine kept ys) (sym is) are)

events_same : (events : List Event) (xs ys next : List Event) (number : ℕ) → AreSameButLine xs ys → InOrder TakesEvent xs (numbered_events number events) (Ok next)
    → (after : List Event) × InOrder KeepsEvent ys events (Ok after) × AreSameButLine next after
events_same [] xs ys next number are is = let same : next ≡ xs = cc in (ys, refl, subst (λ kept. AreSameButLine kept ys) (sym same) are)
events_same (event ∷ events) xs ys next number are (inl (middle, step, rest)) =
    let first = event_same xs ys middle event number are step in
    let last = events_same events middle first.0 next (number + 1) first.2 rest in
    (last.0, inl (first.0, first.1, last.1), last.2)
events_same (event ∷ events) xs ys next number are (inr (stop, step, is)) = absurd (let no : Ok next ≡ Err stop = is in cc)

whole_same : (decoded : Decoded) (fault : Option ItemFault) (first extra : ℕ) (xs ys after : List Event) (next : LogState) → decoded.fault ≡ fault → Ok next ≡ state_unless first fault (record { extra = extra; kept = xs })
    → InOrder KeepsEvent ys decoded.events (Ok after) → AreSameButLine xs after → KeepsDecoded ys decoded (Ok after) × AreSameButLine next.kept after
whole_same decoded None first extra xs ys after next none is keeps are =
    let state : LogState = record { extra = extra; kept = xs } in
    let same : next ≡ state = cc in
    ((Ok after, keeps, ap (λ fault. behind_events fault (Ok after)) (sym none)), subst (λ (s : LogState). AreSameButLine s.kept after) (sym same) are)
whole_same decoded (Some fault) first extra xs ys after next some is keeps are = absurd cc

decoded_same : (state next : LogState) (ys : List Event) (decoded : Decoded) (first : ℕ) → AreSameButLine state.kept ys → TakesDecoded state first decoded (Ok next)
    → (after : List Event) × KeepsDecoded ys decoded (Ok after) × AreSameButLine next.kept after
decoded_same state next ys decoded first are (Ok kept, takes, is) =
    let events = events_same decoded.events state.kept ys kept first are takes in
    let whole = whole_same decoded decoded.fault first _ kept ys events.0 next refl is events.1 events.2 in
    (events.0, whole.0, whole.1)
decoded_same state next ys decoded first are (Err stop, takes, is) = absurd cc

-- what a judge keeps of a line is what is kept of it here
pub line_same : (state next : LogState) (ys : List Event) (line : NumberedLine) → AreSameButLine state.kept ys → TakesLine state line (Ok next)
    → (after : List Event) × KeepsLine ys line.bytes (Ok after) × AreSameButLine next.kept after
line_same state next ys line are (inl (long, is)) = absurd cc
line_same state next ys line are (inr (short, (decoded, is, takes))) =
    let keeps = decoded_same state next ys decoded (line.number + state.extra) are takes in
    (keeps.0, inr (short, (decoded, is, keeps.1)), keeps.2)
