use Rattle.std.proofs.Common.{◌≤◌, sym, ◌∙◌, arith}
use Rattle.std.proofs.lemmas.Option.{none-some}
use Rattle.rbac_timeline.proofs.Freeing.{AreBefore-more, AreBefore-none, all_before, enough_before}
use Rattle.rbac_timeline.proofs.search.Asked.first_forbidden.Goals as goal

pub places-init : goal.places-init
places-init c =
    let s = c.args.self.now in (
      AreBefore-none s.timeline.now s.who.now s.attrs.now s.low s.high c.requires,
      λ cluster_roles found at. absurd (none-some found (sym (c.no_free_bindings-free_bindings.ensures cluster_roles) ∙ at)),
    )

pub free_from-found-requires : goal.free_from-found-requires
free_from-found-requires c = record { within = record { from = c.places.invariant.0.from; upto = c.places.invariant.0.upto }; remembered = c.places.invariant.1 }

pub returns-then-has_first_roles : goal.returns-then-has_first_roles
returns-then-has_first_roles c =
    let s = c.args.self.now in
    rw c.lesser_places-best.ensures (enough_before s.timeline.now s.who.now s.attrs.now s.low s.high c.places.bindings c.free_from-found.result.last c.places.best c.free_from-found.result.places c.free_from-found.ensures.last.from
    (rw c.lesser_places-best.ensures at (c.has_first_roles.ensures.0 c.if-has_first_roles.true)) c.places.invariant.0 c.free_from-found.ensures.places)

pub returns-then-found-self : goal.returns-then-found-self
returns-then-found-self c =
    let s = c.args.self.now in
    rw c.lesser_places-best.ensures (all_before s.timeline.now s.who.now s.attrs.now s.low s.high c.places.bindings c.free_from-found.result.last c.places.best c.free_from-found.result.places c.free_from-found.ensures.last.from
    (omega arith) c.places.invariant.0 c.free_from-found.ensures.places)

pub places-preserved : goal.places-preserved
places-preserved c =
    let s = c.args.self.now in (
      rw c.lesser_places-best.ensures (AreBefore-more s.timeline.now s.who.now s.attrs.now s.low s.high c.places.bindings c.free_from-found.result.last c.places.best c.free_from-found.result.places c.free_from-found.ensures.last.from
          (omega arith) c.places.invariant.0 c.free_from-found.ensures.places),
      c.free_from-found.ensures.remembered,
    )

pub places-smaller : goal.places-smaller
places-smaller c = let behind : c.places.bindings ≤ c.free_from-found.result.last = c.free_from-found.ensures.last.from in omega arith
