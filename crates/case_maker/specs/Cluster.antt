-- The cluster that a case is made of: its state, and what each event does to it.
use Rattle.std.specs.Prelude.{ℕ, zero, suc, List, None, replicate, slice_index_or, slice_set}
use Rattle.case_maker.specs.declared.cluster.Cluster.{Cluster}
use Rattle.case_maker.specs.declared.exchange.Exchange.{Exchange}
use Rattle.case_maker.specs.Random.{next_random, drawn}
use Rattle.case_maker.specs.Exchanges.{exchange_of, revision_after, object_after}
use Rattle.case_maker.specs.Event.{wording_of, event_text}

abbrev pub first_state : ℕ → Cluster
first_state number = record { random = number; revision = 10; objects = replicate 64 None }

-- an event draws a name, and then what is done
abbrev pub name_drawn : Cluster → ℕ
name_drawn state = drawn state.random 64

abbrev pub choice_drawn : Cluster → ℕ
choice_drawn state = drawn (next_random state.random) 8

abbrev pub exchange_at : Cluster → ℕ → Exchange
exchange_at state number = exchange_of (slice_index_or state.objects (name_drawn state) None) (choice_drawn state) number state.revision

abbrev pub state_past : Cluster → ℕ → Cluster
state_past state number = record {
  random = next_random (next_random state.random);
  revision = revision_after (exchange_at state number) state.revision;
  objects = slice_set state.objects (name_drawn state) (object_after (exchange_at state number));
}

-- the state after the events up to this one
abbrev pub state_after : ℕ → ℕ → Cluster
state_after seed zero = first_state seed
state_after seed (suc number) = state_past (state_after seed number) (suc number)

abbrev pub line_at : Cluster → ℕ → List ℕ
line_at state number = event_text number (wording_of (exchange_at state number) (name_drawn state) number state.revision state.objects)
