-- The row of its key is the most recently used.
use Rattle.std.proofs.Common.{◌≡◌, refl, sym, subst, ap, ◌∙◌, ℕ, true, ◌==◌, List, [], Some, None, Option, arith}
use Rattle.std.proofs.lemmas.Bool.Decides.{nat_tests}
use Rattle.std.specs.Prelude.{option_and_then, slice_get}
use Rattle.pp_cache.specs.Memory.{Memory}
use Rattle.pp_cache_law.proofs.Alike.{rows_of}
use Rattle.pp_cache_law.proofs.Changed.{marks_of}
use Rattle.pp_cache_law.proofs.Moves.{in_slot-marked}
use Rattle.pp_cache_law.specs.Pairs.{AreBoth}
use Rattle.pp_cache_law.specs.Tables.{ShowsCache, ShowsInstance}
use Rattle.pp_flow_law.proofs.Framed.{frames as flow_frames}
use Rattle.pp_flow_law.specs.Tables.{Leaving}
use Rattle.pp_law.specs.Connections.{exchange}
use Rattle.pp_law.specs.Deciding.{mark_row_of}
use Rattle.pp_law.specs.Lists.{Bytes}
use Rattle.pp_law.specs.State.{State, Client, Instance as Known}
use Rattle.pp_law.specs.Table.{mark_row, row}
use Rattle.pp_objects.specs.Changes.{marked}
use Rattle.pp_objects.specs.Instances.{Instance, id_of, in_slot, is_life, is_there, row_of}
use Rattle.pp_objects.specs.declared.id.ObjectId.{ObjectId}
use Rattle.pp_peers.specs.declared.peers.Peer.{Peer}
use Rattle.pp_seats.specs.Heads.{asked_in, owned_in}
use Rattle.pp_seats.specs.declared.key.Key.{Key}
use Rattle.pp_seats.specs.declared.seat.Seat.{Seat}
use Rattle.pp_states_law.proofs.Asked.{all_as, frames, itself}
use Rattle.pp_states_law.specs.States.{Parts as Whole, ShowsState}
use Rattle.pp_take.specs.Deciding.{marked_at, row_at, row_by, with_marked}
use Rattle.pp_state.specs.Ends.{Parts}
use Rattle.pp_states_law.proofs.Told.{Stands, are_told_on}
use Rattle.pp_states_law.specs.Steps.{ShowsSteps, whole}
use Rattle.pp_states_law.specs.Told.{AreTold}
use Rattle.pp_turns_law.specs.Decides.{MarksAreTheLaws}

itself_is : (n : ℕ) → (n == n) ≡ true
itself_is n = grind (arith, nat_tests)

marked_state : (number : ℕ → ℕ) (name : Bytes) (l : Leaving) (p : Whole) (s : State) (m : Memory) (n : ℕ) → ShowsState number name [] l p s → ShowsCache number m (mark_row n s) → ShowsState number name [] l (record p { memory = m }) (mark_row n s)
unfolding mark_row
marked_state number name l p s m n shows table = record {
  clients = shows.clients;
  exchanges = flow_frames number l p.flow s shows.exchanges l (mark_row n s) (record { exchanges = refl; next = refl; lines = λ k. refl });
  table = table;
  conns = frames s (mark_row n s) p.peers s.conns (all_as s (mark_row n s) (λ k. itself (exchange s k)) s.conns) shows.conns;
}

marked_next : (n : ℕ) (s : State) → (mark_row n s).next_instance ≡ s.next_instance
unfolding mark_row
marked_next n s = refl

marks_stand : (slot : ℕ) (m : Memory) (next : ℕ) → Stands m (record m { instances = marked slot m.instances }) next next
marks_stand slot m next = record {
  lives = omega arith;
  numbers = omega arith;
  there = λ (id : ObjectId) there. sym (ap (λ (o : Option Instance). is_life id.life o) (in_slot-marked id.slot slot m.instances)) ∙ there;
}

abbrev law_by : Option Known → State → State
law_by o s = elim o as (λ t. State) [ None ↦ s | Some x ↦ mark_row x.id s ]

marks_by : (number : ℕ → ℕ) (name : Bytes) (l : Leaving) (peers : List Peer) (p : Parts) (s : State) → ShowsSteps number name l peers p s → (o : Option Instance) (q : Option Known) → AreBoth (ShowsInstance number p.cache s) o q
    → ShowsSteps number name l peers (record p { cache = with_marked o p.cache }) (law_by q s)
marks_by number name l peers p s steps None None both = steps
marks_by number name l peers p s steps (Some i) (Some x) both =
    let there : is_there (id_of i) p.cache.instances ≡ true = ap (λ (o : Option Instance). is_life i.life o) both.there ∙ itself_is i.life in
    let m : Memory = record p.cache { instances = marked i.slot p.cache.instances } in
    subst (λ (n : ℕ). ShowsSteps number name l peers (record p { cache = m }) (mark_row n s)) both.id (record {
      shows = marked_state number name l (whole p peers) s m (number i.life) steps.shows (marks_of number p.cache s steps.shows.table (id_of i) there);
      order = steps.order;
      told = subst (λ (n : ℕ). AreTold number m n p.flow) (sym (marked_next (number i.life) s)) (are_told_on number p.cache m s.next_instance s.next_instance (marks_stand i.slot p.cache s.next_instance) p.flow steps.told);
      refused = steps.refused;
    })
marks_by number name l peers p s steps None (Some x) both = absurd both
marks_by number name l peers p s steps (Some i) None both = absurd both

pub marks : MarksAreTheLaws
unfolding mark_row_of
marks number name l peers p s steps i seat key here owned =
    let at : row_at i p ≡ row_of key.text.items p.cache.instances =
    ap (λ (o : Option Seat). row_by (option_and_then (λ (x : Seat). owned_in (asked_in x.front)) o) p.cache) here ∙ ap (λ (o : Option Key). row_by o p.cache) owned in
    subst (λ (o : Option Instance). ShowsSteps number name l peers (record p { cache = with_marked o p.cache }) (mark_row_of key.text.items s)) (sym at)
    (marks_by number name l peers p s steps (row_of key.text.items p.cache.instances) (row s key.text.items) (rows_of number p.cache s steps.shows.table.table key.text.items))
