use Rattle.std.proofs.Common.{take, map}
use Rattle.history_model.specs.Bounding.{Shows}
use Rattle.history_model.specs.Histories.{History}
use Rattle.local_bounds.specs.Demands.{AreAsked}
use Rattle.local_bounds.specs.Known.{IsKnownBy, HasSelectors}
use Rattle.write_groups.specs.Modelled.{item_of}
use Rattle.local_bounds.proofs.listing.shown_askings.Given as goal

abbrev pub invariant-loop-item : goal.invariant-loop-item
invariant-loop-item g l = (h : History) → IsKnownBy l.known.past.now l.known.clouds.now h → HasSelectors (g.L.Listable.listable l.lists) h
    → AreAsked h l.number l.place (map (λ item. Shows (item_of item)) (take l.item-index l.items)) l.askings.items
