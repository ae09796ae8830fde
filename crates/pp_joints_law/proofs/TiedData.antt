-- Data of a response come: nothing is noted, and how eviction stands in the program and the law stays alike, whether both note the use of chunks or one.
use Rattle.std.proofs.Common.{◌≡◌, ◌⊎◌, inl, inr, refl, sym, subst, ap, ap₂, ◌∙◌, ℕ, Bool, true, false, not, ◌||◌, ◌&&◌, ◌+◌, length, nat_le, List, [], ◌∷◌, Option, Some, None}
use Rattle.std.specs.Prelude.{count_by}
use Rattle.pp_cache.specs.Memory.{Memory}
use Rattle.pp_cache_law.proofs.Alike.{room_of}
use Rattle.pp_cache_law.specs.Outdated.{AreNamed, AreNoted}
use Rattle.pp_cache_law.specs.Tables.{ShowsChunk}
use Rattle.pp_flow.specs.Entries.{Span}
use Rattle.pp_flow.specs.declared.entry.Exchange.{Exchange as SeatExchange}
use Rattle.pp_flow_law.specs.Tables.{none_leaves}
use Rattle.pp_law.specs.Chunks.{note_use, trigger}
use Rattle.pp_law.specs.Connections.{front_of_line, on_client_of, on_exchange}
use Rattle.pp_law.specs.Lists.{Bytes}
use Rattle.pp_law.specs.OwnHeads.{first_offset, join, joined_one, join_bound, moved_on, note_own, note_sent, sent_as}
use Rattle.pp_law.specs.Passing.{pour}
use Rattle.pp_law.specs.Responses.{deliver}
use Rattle.pp_law.specs.Stages.{bound_of}
use Rattle.pp_law.specs.State.{State, Aim, Through, Own, Filling, Answer, Bound, Conn, Entry, Exchange, Instance as Known, Sent}
use Rattle.pp_objects.specs.Instances.{is_row, is_there, total_at}
use Rattle.pp_objects.specs.declared.id.ObjectId.{ObjectId}
use Rattle.pp_origins.specs.Gots.{DataCame, DeliversTo}
use Rattle.pp_reads_law.proofs.Delivers.{data_come as come}
use Rattle.pp_peers.specs.declared.peers.Peer.{Peer}
use Rattle.pp_reads_law.specs.Bads.{IsOpen}
use Rattle.pp_reads_law.specs.Data.{MayGo}
use Rattle.pp_state.specs.Bodies.{IsButForCells, delivered, delivered_for, joined_by, joined_within, left_for, with_bytes}
use Rattle.pp_state.specs.Ends.{exchange_at, parts}
use Rattle.pp_state.specs.Lines.{first_on}
use Rattle.pp_state.specs.declared.state.State.{State as Turn}
use Rattle.pp_states_law.specs.Steps.{ShowsSteps}
use Rattle.pp_text.specs.Bytes.{is_empty}
use Rattle.pp_joints_law.proofs.Evictions.{alike_as, alike_law, alike_noted, alike_turn, lengths}
use Rattle.pp_joints_law.specs.DataTies.{AreAlike, DataTie, EvictAlike, IsTiedBehind}
use Rattle.pp_joints_law.specs.HeadsNote.{IsTied}

-- ---- of the program: the use of chunks is noted, or nothing joins

record Came (p q : Turn) : Type 0 where
  noted : q.cache.outdated ≡ p.cache.outdated
  forgotten : q.forgotten ≡ p.forgotten
  trigger : q.trigger ≡ p.trigger
  floor : q.floor ≡ p.floor
  evicting : (q.is_evicting ≡ (p.is_evicting || nat_le p.trigger (length q.cache.chunks))) ⊎ ((q.is_evicting ≡ p.is_evicting) × (length q.cache.chunks ≡ length p.cache.chunks))

came_none : (p : Turn) → Came p p
came_none p = record { noted = refl; forgotten = refl; trigger = refl; floor = refl; evicting = inr (refl, refl) }

came_as : (p q r : Turn) → r ≡ q → Came p q → Came p r
came_as p q r is one = subst (λ (z : Turn). Came p z) (sym is) one

bytes_noted : (id : ObjectId) (at : ℕ) (bytes : Bytes) (m : Memory) → (with_bytes id at bytes m).outdated ≡ m.outdated
bytes_noted id at bytes m = by (is_there id m.instances && nat_le (at + length bytes) (total_at id.slot m.instances)) _ refl
  where
    by : (b : Bool) (k : Memory) → k.outdated ≡ m.outdated → (elim b as (λ z. Memory) [ true ↦ k | false ↦ m ]).outdated ≡ m.outdated
    by true k is = is
    by false k is = refl

joins : (number : ℕ) (o : Option Span) (bytes : Bytes) (p : Turn) → Came p (joined_by number o bytes p)
joins number None bytes p = came_none p
joins number (Some span) bytes p = by (left_for number p.flow)
  where
    by : (o : Option ℕ) → Came p (joined_within number o span bytes p)
    by None = came_none p
    by (Some left) = record { noted = bytes_noted span.0 _ _ p.cache; forgotten = refl; trigger = refl; floor = refl; evicting = inl refl }

delivers : (o : Option SeatExchange) (number : ℕ) (bytes : Bytes) (p : Turn) → Came p (delivered_for o number bytes p)
delivers None number bytes p = came_none p
delivers (Some e) number bytes p =
    let one : Came p (joined_by e.number e.bound bytes p) = joins e.number e.bound bytes p in
    record { noted = one.noted; forgotten = one.forgotten; trigger = one.trigger; floor = one.floor; evicting = one.evicting }

-- beside clients and cells
came_beside : (p r q : Turn) → Came p r → IsButForCells r (record q { seats = p.seats }) → Came p q
came_beside p r q one is = record {
  noted = ap (λ (m : Memory). m.outdated) is.cache.rest ∙ one.noted;
  forgotten = ap (λ (z : Turn). z.forgotten) is.rest ∙ one.forgotten;
  trigger = ap (λ (z : Turn). z.trigger) is.rest ∙ one.trigger;
  floor = ap (λ (z : Turn). z.floor) is.rest ∙ one.floor;
  evicting = by one.evicting;
}
  where
    same : length q.cache.chunks ≡ length r.cache.chunks
    same = ap (λ (m : Memory). length m.chunks) is.cache.rest

    mark : q.is_evicting ≡ r.is_evicting
    mark = ap (λ (z : Turn). z.is_evicting) is.rest

    by : (r.is_evicting ≡ (p.is_evicting || nat_le p.trigger (length r.cache.chunks))) ⊎ ((r.is_evicting ≡ p.is_evicting) × (length r.cache.chunks ≡ length p.cache.chunks))
        → (q.is_evicting ≡ (p.is_evicting || nat_le p.trigger (length q.cache.chunks))) ⊎ ((q.is_evicting ≡ p.is_evicting) × (length q.cache.chunks ≡ length p.cache.chunks))
    by (inl notes) = inl (mark ∙ notes ∙ ap (λ (n : ℕ). p.is_evicting || nat_le p.trigger n) (sym same))
    by (inr none) = inr (mark ∙ none.0, same ∙ none.1)

data_came : (k : ℕ) (bytes : Bytes) (p q : Turn) → DataCame k bytes p q → Came p q
data_came k [] p q it = came_as p p q it (came_none p)
data_came k (b ∷ bytes) p q it = by (first_on k (parts p)) it
  where
    by : (o : Option ℕ) → DeliversTo o (b ∷ bytes) p q → Came p q
    by None is = came_as p p q is (came_none p)
    by (Some number) is = came_beside p (delivered number (b ∷ bytes) p) q (delivers (exchange_at number p.flow) number (b ∷ bytes) p) is.rest

-- ---- of the law: the same

record CameIn (s t : State) : Type 0 where
  entries : t.entries ≡ s.entries
  instances : t.instances ≡ s.instances
  displaced : t.displaced ≡ s.displaced
  forgotten : t.forgotten ≡ s.forgotten
  evicting : (t.is_evicting ≡ (s.is_evicting || nat_le (trigger s) (length t.chunks))) ⊎ ((t.is_evicting ≡ s.is_evicting) × (length t.chunks ≡ length s.chunks))

law_none : (s : State) → CameIn s s
law_none s = record { entries = refl; instances = refl; displaced = refl; forgotten = refl; evicting = inr (refl, refl) }

joined_in : (b : Bound) (bytes : Bytes) (s : State) → CameIn s (join b bytes s)
unfolding join note_use
joined_in b bytes s = by (joined_one b bytes s) (λ x. record { entries = refl; instances = refl; displaced = refl; forgotten = refl; evicting = inl refl })
  where
    by : {f : Known → State} (o : Option Known) → ((x : Known) → CameIn s (f x)) → CameIn s (elim o as (λ t. State) [ None ↦ s | Some x ↦ f x ])
    by None one = law_none s
    by (Some x) one = one x

bound_in : (e : Exchange) (bytes : Bytes) (s : State) → CameIn s (join_bound e bytes s)
unfolding join_bound on_exchange
bound_in e bytes s = by (bound_of e)
  where
    by : (o : Option Bound) → CameIn s (elim o as (λ t. State) [ None ↦ s | Some b ↦ on_exchange e.number (moved_on (length bytes)) (join b bytes s) ])
    by None = law_none s
    by (Some b) = let one : CameIn s (join b bytes s) = joined_in b bytes s in record { entries = one.entries; instances = one.instances; displaced = one.displaced; forgotten = one.forgotten; evicting = one.evicting }

-- all else but what was sent is so from before
with_sent : (sent : List Sent) (s t : State) → CameIn (record s { sent = sent }) t → CameIn s t
with_sent sent s t one = record { entries = one.entries; instances = one.instances; displaced = one.displaced; forgotten = one.forgotten; evicting = one.evicting }

abbrev own_by : Exchange → Answer → ℕ → Bytes → State → Bool → State
own_by e a at bytes s b = elim b as (λ t. State) [ true ↦ s | false ↦ record s { sent = sent_as e (first_offset a.head + at) bytes a.version s.sent } ]

own_before : (e : Exchange) (a : Answer) (at : ℕ) (bytes : Bytes) (s t : State) → CameIn (note_own e a at bytes s) t → CameIn s t
unfolding note_own
own_before e a at bytes s t one = by (is_empty bytes) one
  where
    by : (b : Bool) → CameIn (own_by e a at bytes s b) t → CameIn s t
    by true now = now
    by false now = with_sent _ s t now

sent_before : (e : Exchange) (a : Answer) (at : ℕ) (bytes : Bytes) (s t : State) → CameIn (note_sent e a at bytes s) t → CameIn s t
unfolding note_sent
sent_before e a at bytes s t one = by e.aim one
  where
    by : (aim : Aim) → CameIn (elim aim as (λ u. State) [ Through ↦ s | Own ↦ note_own e a at bytes s | Filling v from to ↦ note_own e a at bytes s ]) t → CameIn s t
    by Through now = now
    by Own now = own_before e a at bytes s t now
    by (Filling v from to) now = own_before e a at bytes s t now

deliver_in : (e : Exchange) (a : Answer) (at : ℕ) (bytes : Bytes) (s : State) → CameIn s (deliver e a at bytes s)
unfolding deliver pour on_client_of
deliver_in e a at bytes s =
    let sent : State = note_sent e a at bytes s in
    let one : CameIn s (join_bound e bytes sent) = sent_before e a at bytes s (join_bound e bytes sent) (bound_in e bytes sent) in
    record { entries = one.entries; instances = one.instances; displaced = one.displaced; forgotten = one.forgotten; evicting = one.evicting }

-- ---- both

module _ (number : ℕ → ℕ) (name : Bytes) (peers : List Peer) (p q : Turn) (s : State) (n : ℕ) (k : Conn) (e : Exchange) (a : Answer) (at : ℕ) (bytes : Bytes) (shows : ShowsSteps number name none_leaves peers (parts p) s) (is : IsOpen s n k) (front : front_of_line s k ≡ Some e) (may : MayGo p s e bytes) (it : DataCame n bytes p q) where
  abbrev t : State
  t = deliver e a at bytes s

  behind : ShowsSteps number name none_leaves peers (parts q) t
  behind = come number name peers p q s n k e a at bytes shows is front may it

  turn : Came p q
  turn = data_came n bytes p q it

  law : CameIn s t
  law = deliver_in e a at bytes s

  before : length p.cache.chunks ≡ length s.chunks
  before = lengths (ShowsChunk number p.cache) p.cache.chunks s.chunks shows.shows.table.table.chunks

  then : length q.cache.chunks ≡ length t.chunks
  then = lengths (ShowsChunk number q.cache) q.cache.chunks t.chunks behind.shows.table.table.chunks

  data_alike : p.trigger ≡ trigger s → EvictAlike p s → EvictAlike q t
  data_alike set evict = by turn.evicting law.evicting
    where
      as_before : length q.cache.chunks ≡ length p.cache.chunks → AreAlike p.is_evicting s.is_evicting (length q.cache.chunks) p.trigger p.floor
      as_before same = subst (λ (m : ℕ). AreAlike p.is_evicting s.is_evicting m p.trigger p.floor) (sym same) evict

      notes : t.is_evicting ≡ (s.is_evicting || nat_le (trigger s) (length t.chunks)) → t.is_evicting ≡ (s.is_evicting || nat_le p.trigger (length q.cache.chunks))
      notes is = is ∙ ap₂ (λ (m c : ℕ). s.is_evicting || nat_le m c) (sym set) (sym then)

      so : (b c : Bool) → q.is_evicting ≡ b → t.is_evicting ≡ c → AreAlike b c (length q.cache.chunks) p.trigger p.floor → EvictAlike q t
      so b c one two alike = alike_as q t b c p.trigger p.floor one two turn.trigger turn.floor alike

      by : (q.is_evicting ≡ (p.is_evicting || nat_le p.trigger (length q.cache.chunks))) ⊎ ((q.is_evicting ≡ p.is_evicting) × (length q.cache.chunks ≡ length p.cache.chunks)) → (t.is_evicting ≡ (s.is_evicting || nat_le (trigger s) (length t.chunks))) ⊎ ((t.is_evicting ≡ s.is_evicting) × (length t.chunks ≡ length s.chunks)) → EvictAlike q t
      by (inl one) (inl two) = so (p.is_evicting || nat_le p.trigger (length q.cache.chunks)) (s.is_evicting || nat_le p.trigger (length q.cache.chunks)) one (notes two) (alike_noted p.is_evicting s.is_evicting (length p.cache.chunks) (length q.cache.chunks) p.trigger p.floor evict)
      by (inl one) (inr two) =
          so (p.is_evicting || nat_le p.trigger (length q.cache.chunks)) s.is_evicting one two.0 (alike_turn p.is_evicting s.is_evicting (length q.cache.chunks) p.trigger p.floor (as_before (then ∙ two.1 ∙ sym before)))
      by (inr one) (inl two) = so p.is_evicting (s.is_evicting || nat_le p.trigger (length q.cache.chunks)) one.0 (notes two) (alike_law p.is_evicting s.is_evicting (length q.cache.chunks) p.trigger p.floor (as_before one.1))
      by (inr one) (inr two) = so p.is_evicting s.is_evicting one.0 two.0 (as_before one.1)

  data_tied : p.trigger ≡ trigger s → EvictAlike p s → IsTied p s → IsTiedBehind q t
  data_tied set evict tied = record {
    tied = record {
      noted =
          subst (λ (ns : List Bytes). AreNoted ns t.displaced t.entries) (sym turn.noted)
          (subst (λ (es : List Entry). AreNoted p.cache.outdated t.displaced es) (sym law.entries) (subst (λ (ks : List Bytes). AreNoted p.cache.outdated ks s.entries) (sym law.displaced) tied.noted));
      named = subst (λ (es : List Entry). AreNamed es) (sym law.entries) tied.named;
      leaves = record { forgotten = turn.forgotten ∙ tied.leaves.forgotten ∙ sym law.forgotten };
    };
    evict = data_alike set evict;
  }

  -- as many names are noted then, with one for each row
  pub data_few : length q.cache.outdated + count_by is_row q.cache.instances ≡ length p.cache.outdated + count_by is_row p.cache.instances
  data_few =
      ap₂ (λ (m c : ℕ). m + c) (ap (λ (ns : List Bytes). length ns) turn.noted)
      (room_of number q.cache t behind.shows.table.table ∙ ap (λ (xs : List Known). count_by (λ x. not x.is_retired) xs) law.instances ∙ sym (room_of number p.cache s shows.shows.table.table))

pub data_tie : DataTie
data_tie number name peers p q s n k e a at bytes shows is front may it set evict tied = data_tied number name peers p q s n k e a at bytes shows is front may it set evict tied
