-- In the law, where an entry is gone: whom it serves and what it asks is as it was; and where nothing has to leave memory, the disk is next.
use Rattle.std.proofs.Common.{◌≡◌, refl, sym, ap, ◌∙◌, ℕ, zero, suc, Bool, true, false, find, length, List, [], Option, Some, None}
use Rattle.pp_events_law.specs.Losses.{at_disk, without_entry}
use Rattle.pp_evicting_law.specs.Evicting.{left_behind}
use Rattle.pp_joints_law.proofs.LawLosses.{closes_so}
use Rattle.pp_joints_law.specs.Loading.{NoneHasToLeave}
use Rattle.pp_law.specs.After.{evicted, paid, unread}
use Rattle.pp_law.specs.Chunks.{drop_chunk, victim}
use Rattle.pp_law.specs.Followers.{give_up_asks}
use Rattle.pp_law.specs.Lists.{Bytes}
use Rattle.pp_law.specs.Phases.{in_phase}
use Rattle.pp_law.specs.Replies.{regained}
use Rattle.pp_law.specs.State.{State, Entry, Evicting, Handling, Keeping}
use Rattle.pp_law.specs.Store.{close_name, note_gone, remove_entry}
use Rattle.pp_law.specs.Table.{is_entry_of, pins}
use Rattle.pp_leaves_law.specs.Leaves.{evicted_on, left_by}
use Rattle.pp_target.specs.Name.{name_of}

-- ---- an entry is gone

pub record IsBesideDisk (s t : State) : Type 0 where
  pub clients : t.clients ≡ s.clients
  pub exchanges : t.exchanges ≡ s.exchanges
  pub instances : t.instances ≡ s.instances

name_closed : (name : Bytes) (s : State) → regained s ≡ s → IsBesideDisk s (paid (close_name name s))
unfolding paid regained close_name
name_closed name s anew = record { clients = ap (λ (t : State). t.clients) anew; exchanges = refl; instances = refl }

unread_beside : (name : Bytes) (s : State) → s.phase ≡ Handling → regained s ≡ s → IsBesideDisk s (unread name s)
unread_beside name s at anew =
    let was : IsBesideDisk s (paid (close_name name s)) = name_closed name s anew in
    let is : unread name s ≡ paid (close_name name s) = closes_so name s at in
    record { clients = ap (λ (t : State). t.clients) is ∙ was.clients; exchanges = ap (λ (t : State). t.exchanges) is ∙ was.exchanges; instances = ap (λ (t : State). t.instances) is ∙ was.instances }

noted_beside : (key : Bytes) (s : State) → IsBesideDisk s (note_gone key s)
unfolding note_gone remove_entry
noted_beside key s = by (find (is_entry_of key) s.entries)
  where
    by : (o : Option Entry) → IsBesideDisk s (elim o as (λ c. State) [ None ↦ s | Some e ↦ remove_entry e s ])
    by None = record { clients = refl; exchanges = refl; instances = refl }
    by (Some e) = record { clients = refl; exchanges = refl; instances = refl }

-- where attempts counted anew before
pub without_beside : (key : Bytes) (s : State) → s.phase ≡ Handling → regained s ≡ s → IsBesideDisk s (without_entry key s)
without_beside key s at anew =
    let one : IsBesideDisk s (unread (name_of key) s) = unread_beside (name_of key) s at anew in
    let two : IsBesideDisk (unread (name_of key) s) (without_entry key s) = noted_beside key (unread (name_of key) s) in
    record { clients = two.clients ∙ one.clients; exchanges = two.exchanges ∙ one.exchanges; instances = two.instances ∙ one.instances }

-- ---- nothing leaves memory

none_evicted : (s : State) → s.is_evicting ≡ false → evicted s ≡ s
unfolding evicted
none_evicted s off =
    ap (λ (b : Bool). elim (elim b as (λ t. Option (ℕ × ℕ)) [ true ↦ victim (pins s) s | false ↦ None ]) as (λ t. State) [ None ↦ s | Some place ↦ drop_chunk place.0 place.1 s ]) off

none_evicted_on : (more : ℕ) (s : State) → s.is_evicting ≡ false → evicted_on more s ≡ s
none_evicted_on zero s off = refl
none_evicted_on (suc more) s off = ap (λ (t : State). evicted_on more t) (none_evicted s off) ∙ none_evicted_on more s off

none_left : (s : State) → NoneHasToLeave s → left_by s ≡ s
none_left s none = none_evicted_on (length s.chunks) (record s { forgotten = [] }) none.evicting ∙ ap (λ (keys : List Bytes). record s { forgotten = keys }) (sym none.forgotten)

pub at_disk_then : (s : State) → NoneHasToLeave s → left_behind s ≡ at_disk s
at_disk_then s none = ap (λ (t : State). give_up_asks (in_phase Keeping t)) (none_left (in_phase Evicting s) (record { evicting = none.evicting; forgotten = none.forgotten }))
