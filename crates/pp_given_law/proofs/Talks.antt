-- What holds of each client holds where one is closed, where replies end, and where one is read.
use Rattle.std.proofs.Common.{◌≡◌, refl, sym, subst, ap, ◌∙◌, ℕ, Bool, true, false, ◌==◌, ◌||◌, cond, List, [], ◌∷◌, Option, Some, None, option_map, Ok, Err}
use Rattle.pp_client.specs.Clients.{said_by}
use Rattle.pp_desk.specs.Calls.{Found}
use Rattle.pp_desk.specs.Closings.{closed_client, closing_at, left_at, left_by_errand, left_own, Sides, sides, with_parts, withdrawn}
use Rattle.pp_desk.specs.Replies.{account_renewed, at_next, closes_in, EndsBy, EndsReplies, EndsSaid, EndsSaidOf, EndsWhere, is_finished_in, without_finished, without_finished_at}
use Rattle.pp_flow.specs.Changes.{entry_of}
use Rattle.pp_flow.specs.declared.entry.Exchange.{Exchange}
use Rattle.pp_flow.specs.declared.errand.Errand.{Errand}
use Rattle.pp_events_law.proofs.KeysHeard.{roused_parts}
use Rattle.pp_given_law.proofs.Carried.{becomes, beside, one, Stay, stay_then, Suits}
use Rattle.pp_given_law.proofs.Said.{said_short}
use Rattle.pp_framing.specs.declared.body.BodyRule.{BodyRule}
use Rattle.pp_head.specs.Response.{Response}
use Rattle.pp_links.specs.Links.{Link}
use Rattle.pp_objects.specs.declared.id.ObjectId.{ObjectId}
use Rattle.pp_proxy.specs.Handling.{HearsAt}
use Rattle.pp_proxy.specs.Moving.{Turning}
use Rattle.pp_seats.specs.Heads.{asked_in, body_len_in}
use Rattle.pp_seats.specs.Seats.{at_next_request, IsRead, IsReadBehind}
use Rattle.pp_seats.specs.declared.front.Front.{Front}
use Rattle.pp_seats.specs.declared.front.Front.TheVariants.{NoHead, NoHeadYet, Request as IsThere}
use Rattle.pp_seats.specs.declared.seat.Seat.{Seat}
use Rattle.pp_state.specs.Ends.{changed_at, ended, exchange_of, forsaken, left, left_source, on_seat, Parts, parts, source_at, unfollowed, without_source}
use Rattle.pp_state.specs.Hearing.{is_said_in, lacks_key_at, may_end, with_end}
use Rattle.pp_state.specs.Places.{IsChangedAt, IsChangedIn}
use Rattle.pp_stays_law.proofs.Walk.{AllAt, set_all}
use Rattle.pp_talk.specs.Talking.{astray_behind, brings, heard_by, hung_up, IsReadAt, LooksAtWhere, TakesIn}
use Rattle.pp_world.specs.Log.{Log}
use Rattle.pp_world.specs.declared.event.Got.TheVariants.{Bytes, End, NotYet}
use Rattle.std.specs.Prelude.{slice_get}

module _ (S : Seat → Type 0) (Fits : List ℕ → Response → BodyRule → Type 0) (suits : Suits S Fits) where
  -- ---- one is closed

  pub leaves_source : (i : ℕ) (p : Parts) → Stay S p (left_source i p)
  leaves_source i p = by (source_at i p)
    where
      by : (o : Option ObjectId) → Stay S p (elim o as (λ t. Parts) [ None ↦ p | Some id ↦ record p { seats = changed_at i without_source p.seats; cache = unfollowed id p.cache } ])
      by None = beside p p refl refl
      by (Some id) =
          let q : Parts = on_seat i without_source p in
          let r : Parts = record q { cache = unfollowed id p.cache } in
          stay_then p q r (one S i without_source p (λ seat its. suits.carry seat (without_source seat) (λ is. is) (λ is. is) its)) (beside q r refl refl)

  pub forsakes : (i : ℕ) (p : Parts) → Stay S p (forsaken i p)
  forsakes i p = by (exchange_of i p)
    where
      by : (o : Option Exchange) → Stay S p (elim o as (λ t. Parts) [ None ↦ p | Some e ↦ left e.number p ])
      by None = beside p p refl refl
      by (Some e) = beside p (left e.number p) refl refl

  leaves_ask : (i : ℕ) (o : Option Exchange) (x : Sides) → Stay S x.parts (left_own i o x).parts
  leaves_ask i None x = beside x.parts x.parts refl refl
  leaves_ask i (Some e) x = by (option_map (λ entry. entry.errand) (entry_of e.number x.parts.flow))
    where
      ends : Stay S x.parts (ended e.number x.parts)
      ends = beside x.parts (ended e.number x.parts) refl refl

      on : (b : Bool) (k : ℕ) → Stay S x.parts (cond b (withdrawn e.number k x) (with_parts (forsaken i) x)).parts
      on true k = ends
      on false k = forsakes i x.parts

      at : (errand : Errand) (o : Option ℕ) → Stay S x.parts (left_at i e.number errand o x).parts
      at errand None = ends
      at errand (Some k) = on (errand.asked == 0) k

      by : (o : Option Errand) → Stay S x.parts (left_by_errand i e o x).parts
      by None = beside x.parts x.parts refl refl
      by (Some errand) = at errand e.place

  pub closes_one : (i : ℕ) (x : Sides) → Stay S x.parts (closed_client i x).parts
  closes_one i x =
      let p : Parts = left_source i x.parts in
      let q : Parts = closing_at i x.parts in
      stay_then x.parts q (closed_client i x).parts (stay_then x.parts p q (leaves_source i x.parts) (one S i (λ seat. record seat { is_closing = true }) p (λ seat its. suits.carry seat (record seat { is_closing = true }) (λ is. is) (λ is. is) its)))
      (leaves_ask i (exchange_of i q) (with_parts (closing_at i) x))

  -- ---- what it sent is read as a request

  read_keeps : (old new : Seat) → IsRead old new → S old → S new
  read_keeps old new is its = by old.front is
    where
      by : (f : Front) → IsReadBehind f old new → S new
      by NoHeadYet read = subst S (sym read.1) (suits.carry old (record old { front = new.front; body_left = body_len_in (asked_in new.front) }) (λ is. is) (λ is. is) its)
      by (NoHead status) same = subst S (sym same) its
      by (IsThere a) same = subst S (sym same) its

  not_before : (a b : Bool) → (a || b) ≡ false → a ≡ false
  not_before true b is = absurd (cc is)
  not_before false b is = refl

  looks : (i : ℕ) (p q : Parts) → IsChangedAt IsRead i p.seats q.seats → q.is_astray ≡ (p.is_astray || lacks_key_at i q.seats) → Stay S p q
  looks i p q change astray = record { astray = λ on. not_before p.is_astray (lacks_key_at i q.seats) (sym astray ∙ on); all = λ on h. by (slice_get p.seats i) refl change h }
    where
      by : (o : Option Seat) → slice_get p.seats i ≡ o → IsChangedIn IsRead o i p.seats q.seats → AllAt S p.seats → AllAt S q.seats
      by None here same h = subst (λ (ss : List Seat). AllAt S ss) (sym same) h
      by (Some seat) here change h = subst (λ (ss : List Seat). AllAt S ss) (sym change.2) (set_all S i p.seats seat change.0 here (read_keeps seat change.0 change.1 (h i seat here)) h)

  -- ---- replies end

  ends_by : (i : ℕ) (b : Bool) (x z : Sides) → EndsBy b i x z → Stay S x.parts z.parts
  ends_by i true x z is = becomes x.parts (closed_client i x).parts z.parts (ap (λ (w : Sides). w.parts) is) (closes_one i x)
  ends_by i false x z is =
      let a : Parts = left_source i x.parts in
      let b : Parts = forsaken i a in
      let c : Parts = at_next i x.parts in
      stay_then x.parts c z.parts (stay_then x.parts b c (stay_then x.parts a b (leaves_source i x.parts) (forsakes i a)) (one S i at_next_request b (λ seat its. suits.carry seat (at_next_request seat) (λ is. refl) (λ is. is) its)))
      (looks i c z.parts is.0 (ap (λ (w : Sides). w.parts.is_astray) is.1))

  ends_where : (i : ℕ) (b : Bool) (x z : Sides) → EndsWhere b i x z → Stay S x.parts z.parts
  ends_where i true x z is =
      let y : Sides = with_parts (on_seat i account_renewed) x in
      stay_then x.parts y.parts z.parts (one S i account_renewed x.parts (λ seat its. suits.carry seat (account_renewed seat) (λ is. is) (λ is. is) its)) (ends_by i (closes_in (slice_get x.parts.seats i)) y z is)
  ends_where i false x z is = becomes x.parts x.parts z.parts (ap (λ (w : Sides). w.parts) is) (beside x.parts x.parts refl refl)

  end_keeps : (seat : Seat) → S seat → S (with_end seat)
  end_keeps seat its = by (may_end seat)
    where
      by : (b : Bool) → S (elim b as (λ t. Seat) [ true ↦ record seat { client = said_by 0 seat.client } | false ↦ seat ])
      by true = suits.carry seat (record seat { client = said_by 0 seat.client }) (λ is. is) (said_short 0 seat.client) its
      by false = its

  ends_of : (i : ℕ) (x z : Sides) → EndsSaidOf i x z → Stay S x.parts z.parts
  ends_of i x z is =
      let y : Sides = with_parts (on_seat i with_end) x in
      stay_then x.parts y.parts z.parts (one S i with_end x.parts end_keeps) (ends_where i (is_said_in (slice_get x.parts.seats i)) y z is)

  said : (is : List ℕ) (x z : Sides) → EndsSaid is x z → Stay S x.parts z.parts
  said [] x z ends = becomes x.parts x.parts z.parts (ap (λ (w : Sides). w.parts) ends) (beside x.parts x.parts refl refl)
  said (i ∷ is) x z ends = stay_then x.parts ends.0.parts z.parts (ends_of i x ends.0 ends.1) (said is ends.0 z ends.2)

  finished_one : (i : ℕ) (x : Sides) → Stay S x.parts (without_finished_at x i).parts
  finished_one i x = by (is_finished_in (slice_get x.parts.seats i))
    where
      by : (b : Bool) → Stay S x.parts (cond b (closed_client i x) x).parts
      by true = closes_one i x
      by false = beside x.parts x.parts refl refl

  finished : (is : List ℕ) (x : Sides) → Stay S x.parts (without_finished is x).parts
  finished [] x = beside x.parts x.parts refl refl
  finished (i ∷ is) x = stay_then x.parts (without_finished_at x i).parts (without_finished (i ∷ is) x).parts (finished_one i x) (finished is (without_finished_at x i))

  pub replies_stay : (is : List ℕ) (x z : Sides) → EndsReplies is x z → Stay S x.parts z.parts
  replies_stay is x z ends =
      stay_then x.parts ends.0.parts z.parts (said is x ends.0 ends.1) (becomes ends.0.parts (without_finished is ends.0).parts z.parts (ap (λ (w : Sides). w.parts) ends.2) (finished is ends.0))

  -- ---- a client is read

  heard_keeps : (found : Found) (front : List ℕ) (seat : Seat) → S seat → S (heard_by found front seat)
  heard_keeps None front seat its = its
  heard_keeps (Some (Ok (Bytes n))) front seat its = suits.carry seat (heard_by (Some (Ok (Bytes n))) front seat) (λ is. is) (λ is. is) its
  heard_keeps (Some (Ok End)) front seat its = suits.carry seat (hung_up seat) (λ is. is) (λ is. is) its
  heard_keeps (Some (Ok NotYet)) front seat its = its
  heard_keeps (Some (Err fault)) front seat its = suits.carry seat (hung_up seat) (λ is. is) (λ is. is) its

  looks_where : (b : Bool) (i : ℕ) (p q : Parts) → LooksAtWhere b i p.seats q.seats → q.is_astray ≡ astray_behind b p.is_astray i q.seats → Stay S p q
  looks_where true i p q is astray = looks i p q is astray
  looks_where false i p q is astray = beside p q is astray

  takes_in : (found : Found) (front : List ℕ) (i : ℕ) (x z : Sides) → TakesIn found front i x z → Stay S x.parts z.parts
  takes_in found front i x z is =
      let p : Parts = on_seat i (heard_by found front) x.parts in
      stay_then x.parts p z.parts (one S i (heard_by found front) x.parts (heard_keeps found front)) (looks_where (brings found) i p z.parts is.seats is.astray)

  reads_at : (o : Option Seat) (most i : ℕ) (links : List Link) (x z : Sides) (old new : Option Log) → IsReadAt o most i links x z old new → Stay S x.parts z.parts
  reads_at None most i links x z old new is = becomes x.parts x.parts z.parts (ap (λ (w : Sides). w.parts) is.0) (beside x.parts x.parts refl refl)
  reads_at (Some seat) most i links x z old new is = takes_in is.found is.front i x z is.is

  pub hears_stay : (i : ℕ) (x y : Turning) → HearsAt i x y → Stay S (parts x.moving.desk.state) (parts y.moving.desk.state)
  hears_stay i x y hears =
      let r : Sides = sides hears.roused in
      let z : Sides = hears.hears.0 in
      subst (λ (p : Parts). Stay S p (parts y.moving.desk.state)) (roused_parts i x.moving.desk hears.roused hears.rouses)
      (stay_then r.parts z.parts (parts y.moving.desk.state) (reads_at (slice_get r.parts.seats i) _ i x.moving.links r z x.log y.log hears.hears.1)
      (replies_stay hears.roused.state.awake.items z (sides y.moving.desk) hears.hears.2))
