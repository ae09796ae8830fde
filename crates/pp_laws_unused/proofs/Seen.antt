-- What is asked of an opening, and that the disk leaves it as it is.
use Rattle.std.proofs.Common.{◌≡◌, refl, ℕ, Bool, true, false, List, [], ◌∷◌, ◌++◌, find, Option, Some, None, sym, ap, ◌∙◌}
use Rattle.std.specs.List.{list_any}
use Rattle.pp_world.specs.declared.happening.Happening.TheVariants.{Did}
use Rattle.pp_world.specs.declared.op.DiskOp.{DiskOp}
use Rattle.pp_law.specs.After.{ended_op}
use Rattle.pp_law.specs.Lists.{Bytes}
use Rattle.pp_law.specs.Opening.{is_opening, is_same_phase, lose_in_opening}
use Rattle.pp_law.specs.Repairs.{agenda_in_opening, begin_in_opening}
use Rattle.pp_law.specs.State.{State, Agenda, Chunk, Client, Conn, Entry, Exchange, Instance, Phase, IsWoken, IsConfigured, IsRooted, IsListed, IsListening, IsStuck, Todo, Do, Enter, Acknowledge}
use Rattle.pp_law.specs.Store.{agenda_in_turn, begin_in_turn, begin_op, close_name, end_op, enter_next, fail_op, is_of_draft, left_todo, lose_draft, lose_entry, note_gone, note_kept, remove_entry}
use Rattle.pp_law.specs.Table.{is_entry_of}
use Rattle.pp_opening_law.specs.Openings.{IsUnused}

-- ---- what is looked at

pub record Seen : Type 0 where
  pub phase : Phase
  pub clients : List Client
  pub conns : List Conn
  pub exchanges : List Exchange
  pub begun : ℕ
  pub instances : List Instance
  pub chunks : List Chunk
  pub clock : ℕ
  pub still : Bool
  pub goes : Bool

abbrev pub seen : State → Seen
seen s = record {
  phase = s.phase;
  clients = s.clients;
  conns = s.conns;
  exchanges = s.exchanges;
  begun = s.next_exchange;
  instances = s.instances;
  chunks = s.chunks;
  clock = s.clock;
  still = s.is_ticked;
  goes = s.is_stopped;
}

pub unused_as : (s t : State) → seen t ≡ seen s → IsUnused s → IsUnused t
unused_as s t is u = record {
  clients = ap (λ (v : Seen). v.clients) is ∙ u.clients;
  conns = ap (λ (v : Seen). v.conns) is ∙ u.conns;
  exchanges = ap (λ (v : Seen). v.exchanges) is ∙ u.exchanges;
  begun = ap (λ (v : Seen). v.begun) is ∙ u.begun;
  instances = ap (λ (v : Seen). v.instances) is ∙ u.instances;
  chunks = ap (λ (v : Seen). v.chunks) is ∙ u.chunks;
  clock = ap (λ (v : Seen). v.clock) is ∙ u.clock;
  still = ap (λ (v : Seen). v.still) is ∙ u.still;
  goes = ap (λ (v : Seen). v.goes) is ∙ u.goes;
}

-- where it is an opening, nothing is there yet
abbrev pub Early : State → Type 0
Early s = is_opening s ≡ true → IsUnused s

pub early_as : (s t : State) → seen t ≡ seen s → Early s → Early t
early_as s t is h opens = unused_as s t is (h (sym (ap opening is) ∙ opens))
  where
    opening : Seen → Bool
    opening v = list_any (λ p. is_same_phase p v.phase) (IsWoken ∷ IsConfigured ∷ IsRooted ∷ IsListed ∷ IsListening ∷ IsStuck ∷ [])

-- ---- the disk

seen_when : (t : Bool) (x y s : State) → seen x ≡ seen s → seen y ≡ seen s → seen (elim t as (λ c. State) [ true ↦ x | false ↦ y ]) ≡ seen s
seen_when true x y s hx hy = hx
seen_when false x y s hx hy = hy

begun_seen : (op : DiskOp) (a : Option Agenda) (s : State) → seen (begin_op op a s) ≡ seen s
unfolding begin_op
begun_seen op None s = refl
begun_seen op (Some a) s = refl

pub opening_begun_seen : (op : DiskOp) (s : State) → seen (begin_in_opening op s) ≡ seen s
unfolding begin_in_opening
opening_begun_seen op s = begun_seen op (agenda_in_opening op s) s

pub turn_begun_seen : (op : DiskOp) (s : State) → seen (begin_in_turn op s) ≡ seen s
unfolding begin_in_turn
turn_begun_seen op s = begun_seen op (agenda_in_turn op s) s

entered_seen : (s : State) → seen (enter_next s) ≡ seen s
unfolding enter_next
entered_seen s = by s.agenda.todo
  where
    one : (next : Todo) (todo : List Todo) → seen (elim next as (λ c. State) [ Do op ↦ s | Acknowledge key tag n extent ↦ s | Enter e ↦ left_todo todo (record s { entries = s.entries ++ e ∷ [] }) ]) ≡ seen s
    one (Do op) todo = refl
    one (Acknowledge key tag n extent) todo = refl
    one (Enter e) todo = refl

    by : (todo : List Todo) → seen (elim todo as (λ c. State) [
      | [] ↦ s
      | next ∷ rest ↦ elim next as (λ c. State) [ Do op ↦ s | Acknowledge key tag n extent ↦ s | Enter e ↦ left_todo rest (record s { entries = s.entries ++ e ∷ [] }) ]
    ]) ≡ seen s
    by [] = refl
    by (next ∷ rest) = one next rest

pub lost_seen : (name : Bytes) (s : State) → seen (lose_in_opening name s) ≡ seen s
unfolding lose_in_opening lose_entry
lost_seen name s = seen_when (is_opening s) _ s s refl refl

pub closed_seen : (name : Bytes) (s : State) → seen (close_name name s) ≡ seen s
unfolding close_name
closed_seen name s = refl

failed_seen : (op : DiskOp) (s : State) → seen (fail_op op s) ≡ seen s
unfolding fail_op lose_draft
failed_seen op s = seen_when (is_of_draft op) _ _ s refl (closed_seen s.agenda.name s)

pub ended_seen : (op : DiskOp) (ok : Bool) (s : State) → seen (ended_op op ok s) ≡ seen s
unfolding ended_op end_op
ended_seen op true s = entered_seen (record s { under_way = None; disk = s.disk ++ Did op true ∷ [] })
ended_seen op false s =
    let t : State = record s { under_way = None; disk = s.disk ++ Did op false ∷ [] } in
    lost_seen s.agenda.name (fail_op op t) ∙ failed_seen op t

pub kept_seen : (key : Bytes) (extent : ℕ) (s : State) → seen (note_kept key extent s) ≡ seen s
unfolding note_kept
kept_seen key extent s = refl

pub gone_seen : (key : Bytes) (s : State) → seen (note_gone key s) ≡ seen s
unfolding note_gone remove_entry
gone_seen key s = by (find (is_entry_of key) s.entries)
  where
    by : (o : Option Entry) → seen (elim o as (λ c. State) [ None ↦ s | Some e ↦ remove_entry e s ]) ≡ seen s
    by None = refl
    by (Some e) = refl
