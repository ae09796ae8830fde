-- What holds of the law's state holds behind connections that are closed.
use Rattle.std.proofs.Common.{◌≡◌, ◌⊎◌, inl, inr, refl, sym, subst, ap, ◌∙◌, ℕ, Bool, true, false, find, List, [], ◌∷◌, ◌++◌, Option, Some, None}
use Rattle.pp_turns_law.proofs.AllDropped.{stays as stays_there}
use Rattle.pp_turns_law.specs.Log.{IsConnecting}
use Rattle.pp_desk.specs.Shutting.{closed_as, closings}
use Rattle.pp_law.specs.After.{after, changed, dropped, out, shut}
use Rattle.pp_law.specs.Connections.{conn, placing, put_on}
use Rattle.pp_law.specs.State.{State, Conn}
use Rattle.pp_laws_bounds.proofs.Places.{placing-any}
use Rattle.pp_links.specs.Links.{Link, is_link, without as without_link}
use Rattle.pp_obeys.proofs.Frames.{Frame, frame, frame_of, stays}
use Rattle.pp_obeys.proofs.StaysTable.{placing-stays}
use Rattle.pp_obeys.proofs.StaysTurns.{out-stays, shut-stays}
use Rattle.pp_obeys.specs.Moves.{Leads}
use Rattle.pp_world.specs.Log.{Log}
use Rattle.pp_world.specs.declared.event.Side.{Side}
use Rattle.pp_world.specs.declared.event.Side.TheVariants.{Client as OfClient, Origin}
use Rattle.pp_world.specs.declared.happening.Happening.{Happening}
use Rattle.pp_world.specs.declared.happening.Happening.TheVariants.{Dropped, Shut}
use Rattle.pp_stays_law.proofs.Law.{Any, shut_any}

-- ---- they lead to one state

pub lead_once : (hs : Log) (s t u : State) → Leads hs s t → Leads hs s u → t ≡ u
lead_once [] s t u one two = sym one ∙ two
lead_once (h ∷ hs) s t u one two = lead_once hs (after s h) t u one.holds two.holds

-- ---- connections are closed

abbrev pub IsClosing : Happening → Type 0
IsClosing h = (n : ℕ) × ((h ≡ Shut n) ⊎ (h ≡ Dropped n))

abbrev pub AreClosings : Log → Type 0
AreClosings [] = Unit {0}
AreClosings (h ∷ hs) = IsClosing h × AreClosings hs

both_closings : (a b : Log) → AreClosings a → AreClosings b → AreClosings (a ++ b)
both_closings [] b one two = two
both_closings (h ∷ hs) b one two = (one.0, both_closings hs b one.1 two)

side_closes : (id : ℕ) (side : Side) → AreClosings (closed_as (Some (id, side)))
side_closes id OfClient = ((id, inl refl), tt)
side_closes id Origin = ((id, inr refl), tt)

link_closes : (o : Option Link) → AreClosings (closed_as o)
link_closes None = tt
link_closes (Some link) = side_closes link.0 link.1

pub all_close : (ids : List ℕ) (links : List Link) → AreClosings (closings ids links)
all_close [] links = tt
all_close (id ∷ ids) links = both_closings (closed_as (find (is_link id) links)) (closings ids (without_link id links)) (link_closes (find (is_link id) links)) (all_close ids (without_link id links))

-- ---- connections are closed still

abbrev Same : State → State → Type 0
Same s t = frame true t ≡ frame true s

on_so : (s t : State) → Same s t → IsConnecting s → IsConnecting t
on_so s t same is = record { at = ap (λ (o : Frame). o.phase) same ∙ is.at; none = ap (λ (o : Frame). o.made_room_for) same ∙ is.none }

dropped_same : (n : ℕ) (s : State) → Same s (dropped n s)
unfolding dropped
dropped_same n s = by (conn s n)
  where
    at : (b : Bool) → Same s (elim b as (λ t. State) [ true ↦ out n s | false ↦ out n (placing s).state ])
    at true = frame_of {all = true} (out-stays n s (stays refl))
    at false = frame_of {all = true} (out-stays n (placing s).state (placing-stays s (stays refl)))

    by : (o : Option Conn) → Same s (elim o as (λ t. State) [ None ↦ s | Some k ↦ elim k.is_closing as (λ t. State) [ true ↦ out n s | false ↦ out n (placing s).state ] ])
    by None = refl
    by (Some k) = at k.is_closing

shut_same : (n : ℕ) (s : State) → Same s (shut n s)
shut_same n s = frame_of {all = true} (shut-stays n s (stays refl))

-- ---- what holds

module _ (P : State → Type 0) (any : Any P) (put : (n k : ℕ) (s : State) → P s → P (put_on n k s)) where
  pub placing_fine : (s : State) → P s → P (placing s).state
  placing_fine s h = placing-any P put s h

  dropped_fine : (n : ℕ) (s : State) → P s → P (dropped n s)
  unfolding dropped
  dropped_fine n s h = by (conn s n)
    where
      at : (b : Bool) → P (elim b as (λ t. State) [ true ↦ out n s | false ↦ out n (placing s).state ])
      at true = any.out n s h
      at false = any.out n (placing s).state (placing_fine s h)

      by : (o : Option Conn) → P (elim o as (λ t. State) [ None ↦ s | Some k ↦ elim k.is_closing as (λ t. State) [ true ↦ out n s | false ↦ out n (placing s).state ] ])
      by None = h
      by (Some k) = at k.is_closing

  shut_event : (n : ℕ) (s : State) → IsConnecting s → P s → P (after s (Shut n)) × IsConnecting (after s (Shut n))
  unfolding changed
  shut_event n s is h = subst (λ (t : State). P (shut n t) × IsConnecting (shut n t)) (sym (stays_there s is)) (shut_any P any n s h, on_so s (shut n s) (shut_same n s) is)

  dropped_event : (n : ℕ) (s : State) → IsConnecting s → P s → P (after s (Dropped n)) × IsConnecting (after s (Dropped n))
  unfolding changed
  dropped_event n s is h = subst (λ (t : State). P (dropped n t) × IsConnecting (dropped n t)) (sym (stays_there s is)) (dropped_fine n s h, on_so s (dropped n s) (dropped_same n s) is)

  event_fine : (h : Happening) (s : State) → IsClosing h → IsConnecting s → P s → P (after s h) × IsConnecting (after s h)
  event_fine h s (n, inl same) is its = subst (λ (g : Happening). P (after s g) × IsConnecting (after s g)) (sym same) (shut_event n s is its)
  event_fine h s (n, inr same) is its = subst (λ (g : Happening). P (after s g) × IsConnecting (after s g)) (sym same) (dropped_event n s is its)

  pub closings_fine : (hs : Log) (s t : State) → AreClosings hs → IsConnecting s → Leads hs s t → P s → P t
  closings_fine [] s t close is leads h = subst P leads h
  closings_fine (g ∷ hs) s t close is leads h = let one : P (after s g) × IsConnecting (after s g) = event_fine g s close.0 is h in closings_fine hs (after s g) t close.1 one.1 leads.holds one.0
