use Rattle.std.proofs.Common.{take, map}
use Rattle.history_model.specs.Bounding.{Lacks}
use Rattle.history_model.specs.Histories.{History}
use Rattle.local_bounds.specs.Demands.{AreAsked}
use Rattle.local_bounds.specs.Known.{IsKnownBy, HasSelectors}
use Rattle.local_bounds.proofs.listing.lacked_askings.Given as goal

abbrev pub invariant-loop-key : goal.invariant-loop-key
invariant-loop-key g l = (h : History) → IsKnownBy l.known.past.now l.known.clouds.now h → HasSelectors (g.L.Listable.listable l.lists) h
    → AreAsked h l.number l.place (map (λ key. Lacks key.now) (take l.key-index l.keys)) l.askings.items
