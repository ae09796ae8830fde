-- What is due first and its row, what is taken, and replies that begin bring no byte.
use Rattle.std.proofs.Common.{◌≡◌, inl, inr, refl, sym, subst, ap, ◌∙◌, ℕ, ◌==◌, Bool, true, false, ◌&&◌, nat_lt, List, [], ◌∷◌, Option, Some, None}
use Rattle.std.specs.Prelude.{slice_get}
use Rattle.pp_cache.specs.Memory.{Memory}
use Rattle.pp_desk.specs.Closings.{Sides, sides}
use Rattle.pp_desk.specs.declared.desk.Desk.{Desk}
use Rattle.pp_due.specs.Due.{due_at}
use Rattle.pp_due.specs.Entering.{ComesOrIsRefused, FirstDue, HasRow, HasRowOf, IsDueWithRow, is_due_at, key_at}
use Rattle.pp_due.specs.OnDisk.{kept_alone}
use Rattle.pp_flow.specs.Changes.{Exchanges, changed, entry_of}
use Rattle.pp_flow.specs.Entries.{nobodys}
use Rattle.pp_flow.specs.declared.entry.Entry.{Entry}
use Rattle.pp_law.specs.Lists.{Bytes}
use Rattle.pp_objects.specs.Changes.{given_back, is_last, left_from}
use Rattle.pp_objects.specs.Instances.{Instance, followers_of, in_slot, is_there}
use Rattle.pp_objects.specs.declared.id.ObjectId.{ObjectId}
use Rattle.pp_proxy.specs.Taking.{IsTaken, TakesDue, TakesDueFor, TakesDueOf, who_at}
use Rattle.pp_seats.specs.declared.due.Due.{Due}
use Rattle.pp_seats.specs.declared.due.Due.TheVariants.{Decide, CutOff}
use Rattle.pp_seats.specs.declared.seat.Answer.{Answer}
use Rattle.pp_seats.specs.declared.seat.Seat.{Seat}
use Rattle.pp_seats.specs.declared.seat.Stage.{Stage}
use Rattle.pp_seats.specs.declared.seat.Stage.TheVariants.{Undecided, Waiting, Passing, Answering}
use Rattle.pp_state.specs.Ends.{Parts, parts}
use Rattle.pp_state.specs.declared.state.State.{State as Turn}
use Rattle.pp_steps.specs.Begins.{BeginsAnswer, BeginsAt, BeginsBy, BeginsDecided, BeginsFrom, BeginsKept, BeginsOf, BeginsReplies, BeginsReply, BeginsRow, Kept, after_shown, asked_by, kept_of, left_unanswered, may_be_shown, may_begin, with_left, without_outrun, without_unanswered}
use Rattle.pp_steps.specs.Evicting.{given_way, row_in_way, without_row}
use Rattle.pp_store.specs.Kept.{KeptMap}
use Rattle.pp_take.specs.Deciding.{afforded}
use Rattle.pp_world.specs.declared.note.Decision.{Decision}
use Rattle.pp_world.specs.declared.note.Decision.TheVariants.{Refuse, Hit, Part, Head, NotModified, Unsatisfiable, Relay, Validate, Fetch, Pass}
use Rattle.pp_grown_law.proofs.Numbers.{Rise, flows_same, rise_left}
use Rattle.pp_grown_law.proofs.Passing.{Goes, goes_none, goes_same, goes_then}
use Rattle.pp_grown_law.proofs.Shut.{client_goes}
use Rattle.pp_grown_law.proofs.Owners.{HasOwners, Less, brought_less, brought_size, less_of, less_then}
use Rattle.pp_grown_law.proofs.Slots.{Lessens, lessens_left, lessens_none, lessens_out}
use Rattle.pp_grown_law.proofs.Taken.{Puts, puts_of, takes_go}

-- ---- of a turn

pub record Leads (p q : Turn) : Type 0 where
  pub run : q.run ≡ p.run
  pub memory : HasOwners p.cache → Less p.cache q.cache
  pub size : q.cache.size ≡ p.cache.size
  pub flow : Rise p.flow → Rise q.flow

pub leads_then : (p q r : Turn) → Leads p q → Leads q r → Leads p r
leads_then p q r one two = record {
  run = two.run ∙ one.run;
  memory = λ owners. let first : Less p.cache q.cache = one.memory owners in less_then p.cache q.cache r.cache first (two.memory first.owners);
  size = two.size ∙ one.size;
  flow = λ rise. two.flow (one.flow rise);
}

pub leads_by : (p q : Turn) → q.run ≡ p.run → Puts (parts p) (parts q) → Leads p q
leads_by p q run puts = record { run = run; memory = λ owners. less_of p.cache q.cache owners puts.memory; size = puts.memory.size; flow = puts.rise }

pub leads_same : (p q : Turn) → q.run ≡ p.run → q.cache ≡ p.cache → q.flow ≡ p.flow → Leads p q
leads_same p q run cache flow = leads_by p q run (puts_of (parts p) (parts q) (goes_same (parts p) (parts q) cache flow))

pub leads_none : (p : Turn) → Leads p p
leads_none p = leads_same p p refl refl refl

pub leads_as : (p q r : Turn) → r ≡ q → Leads p q → Leads p r
leads_as p q r is all = subst (λ (t : Turn). Leads p t) (sym is) all

-- ---- what is due first

comes_lead : (shelf : KeptMap) (i : ℕ) (key : Bytes) (p q : Turn) → ComesOrIsRefused shelf i key p q → Leads p q
comes_lead shelf i key p q (inl comes) =
    record { run = ap (λ (t : Turn). t.run) comes.rest; memory = λ owners. brought_less key (kept_alone key shelf p.cache) p.cache q.cache comes.cache owners; size = brought_size key (kept_alone key shelf p.cache) p.cache q.cache comes.cache; flow = λ rise. subst Rise (sym (ap (λ (t : Turn). t.flow) comes.rest)) rise }
comes_lead shelf i key p q (inr refused) = leads_same p q (ap (λ (t : Turn). t.run) refused.rest) (ap (λ (t : Turn). t.cache) refused.rest) (ap (λ (t : Turn). t.flow) refused.rest)

rows_lead : (shelf : KeptMap) (i : ℕ) (o : Option Bytes) (p q : Turn) → HasRowOf shelf i o p q → Leads p q
rows_lead shelf i None p q same = leads_as p p q same (leads_none p)
rows_lead shelf i (Some key) p q comes = comes_lead shelf i key p q comes

due_leads : (shelf : KeptMap) (i : ℕ) (p q : Turn) (due : Option Due) → IsDueWithRow shelf i p q due → Leads p q
due_leads shelf i p q due it = by (is_due_at shelf i p) it
  where
    by : (b : Bool) → (elim b as (λ c. Type 0) [ true ↦ HasRow shelf i p q × (due ≡ due_at i q) | false ↦ (q ≡ p) × (due ≡ None) ]) → Leads p q
    by true here = rows_lead shelf i (key_at i p) p q here.0
    by false here = leads_as p p q here.0 (leads_none p)

pub first_leads : (shelf : KeptMap) (places : List ℕ) (p q : Turn) (found : Option (ℕ × Due)) → FirstDue shelf places p q found → Leads p q
unfolding FirstDue
first_leads shelf [] p q found it = leads_as p p q it.0 (leads_none p)
first_leads shelf (i ∷ places) p q found it = by it.1 it.3 (λ rest. first_leads shelf places it.0 q found rest)
  where
    here : Leads p it.0
    here = due_leads shelf i p it.0 it.1 it.2

    by : (o : Option Due) → (elim o as (λ c. Type 0) [ Some d ↦ (q ≡ it.0) × (found ≡ Some (i, d)) | None ↦ FirstDue shelf places it.0 q found ]) → (FirstDue shelf places it.0 q found → Leads it.0 q) → Leads p q
    by (Some d) same later = leads_as p it.0 q same.0 here
    by None rest later = leads_then p it.0 q here (later rest)

-- ---- it is taken

way_goes : (o : Option Instance) (p : Turn) → Goes (parts p) (parts (without_row o p))
way_goes None p = goes_none (parts p)
way_goes (Some x) p = record { memory = lessens_out x.slot p.cache; flow = flows_same p.flow p.flow refl }

taken_goes : (i : ℕ) (d : Decision) (p : Turn) (new : Parts) → IsTaken i d p new → Goes (parts p) new
taken_goes i d p new it =
    let one : Goes (parts p) (parts (given_way d i p)) = way_goes (row_in_way d i p) p in
    goes_then (parts p) it.between new (goes_then (parts p) (parts (given_way d i p)) it.between one (takes_go p.name.items i d (parts (given_way d i p)) it.between it.takes))
    (goes_same it.between new (ap (λ (z : Parts). z.cache) it.is) (ap (λ (z : Parts). z.flow) it.is))

pub due_goes : (i : ℕ) (due : Due) (x y : Desk) → TakesDue i due x y → Goes (parts x.state) (parts y.state)
due_goes i due x y it = by (who_at i x.state) it
  where
    for : (d : Due) → TakesDueFor i d x y → Goes (parts x.state) (parts y.state)
    for (Decide d) one = taken_goes i (afforded i d x.state) x.state (parts y.state) one.0
    for (CutOff cause) one = subst (λ (z : Sides). Goes (parts x.state) z.parts) (sym one) (client_goes i (sides x))

    by : (o : Option (ℕ × ℕ)) → TakesDueOf o i due x y → Goes (parts x.state) (parts y.state)
    by None same = subst (λ (z : Sides). Goes (parts x.state) z.parts) (sym same) (goes_none (parts x.state))
    by (Some who) one = for due one

-- ---- replies begin

left_less : (id : ObjectId) (m : Memory) → Lessens m (with_left id m)
left_less id m = by (is_there id m.instances && nat_lt 0 (followers_of (in_slot id.slot m.instances)))
  where
    by : (b : Bool) → Lessens m (elim b as (λ t. Memory) [ true ↦ record m { instances = left_from id.slot (in_slot id.slot m.instances) m.instances; chunks = given_back (is_last (in_slot id.slot m.instances)) id.slot m.chunks } | false ↦ m ])
    by true = lessens_left id.slot (in_slot id.slot m.instances) m
    by false = lessens_none m

unanswered_rise : (n : ℕ) (o : Option Entry) (f : Exchanges) → Rise f → Rise (left_unanswered n o f)
unanswered_rise n None f rise = rise
unanswered_rise n (Some e) f rise = by e.exchange.headed
  where
    by : (b : Bool) → Rise (elim b as (λ t. Exchanges) [ true ↦ f | false ↦ record f { waiting = changed n nobodys f.waiting; placed = changed n nobodys f.placed } ])
    by true = rise
    by false = rise_left n f rise

outrun_rise : (client : ℕ) (f : Exchanges) → Rise f → Rise (without_outrun client f)
outrun_rise client f rise = by (asked_by client f)
  where
    by : (o : Option ℕ) → Rise (without_unanswered o f)
    by None = rise
    by (Some n) = unanswered_rise n (entry_of n f) f rise

shown_leads : (b : Bool) (id : ObjectId) (answer : Answer) (client : ℕ) (p : Turn) → Leads p (after_shown b id answer client p)
shown_leads false id answer client p = leads_none p
shown_leads true id answer client p = leads_by p (after_shown true id answer client p) refl (record { memory = by (answer.from == answer.to); rise = outrun_rise client p.flow })
  where
    by : (b : Bool) → Lessens p.cache (elim b as (λ t. Memory) [ true ↦ with_left id p.cache | false ↦ p.cache ])
    by true = left_less id p.cache
    by false = lessens_none p.cache

at_leads : (P : Seat → Seat → Type 0) (i : ℕ) (w p q : Turn) → BeginsAt P i w p q → Leads p w → Leads p q
at_leads P i w p q it leads = leads_then p w q leads (leads_same w q (ap (λ (t : Turn). t.run) it.rest) (ap (λ (t : Turn). t.cache) it.rest) (ap (λ (t : Turn). t.flow) it.rest))

module _ (i : ℕ) (p q : Turn) where
  same_leads : q ≡ p → Leads p q
  same_leads is = leads_as p p q is (leads_none p)

  row_leads : (id : ObjectId) (answer : Answer) (k : Option Kept) (o : Option Seat) → BeginsRow i id answer k o p q → Leads p q
  row_leads id answer None o is = same_leads is
  row_leads id answer (Some k) None is = same_leads is
  row_leads id answer (Some k) (Some seat) it = at_leads _ i (after_shown (may_be_shown answer k.version k.fields seat) id answer seat.client.id p) p q it (shown_leads (may_be_shown answer k.version k.fields seat) id answer seat.client.id p)

  from_leads : (answer : Answer) (o : Option ObjectId) → BeginsFrom i answer o p q → Leads p q
  from_leads answer None is = same_leads is
  from_leads answer (Some id) it = by (may_begin id answer p.cache) it
    where
      by : (b : Bool) → BeginsKept i id answer b p q → Leads p q
      by false is = same_leads is
      by true row = row_leads id answer (kept_of id p.name.items p.now p.cache) (slice_get p.seats.items i) row

  decided_leads : (answer : Answer) (d : Decision) → BeginsDecided i answer d p q → Leads p q
  decided_leads answer Pass it = at_leads _ i p p q it (leads_none p)
  decided_leads answer Relay it = at_leads _ i p p q it (leads_none p)
  decided_leads answer (Refuse status) it = from_leads answer answer.source it
  decided_leads answer (Hit from to) it = from_leads answer answer.source it
  decided_leads answer (Part from to) it = from_leads answer answer.source it
  decided_leads answer Head it = from_leads answer answer.source it
  decided_leads answer NotModified it = from_leads answer answer.source it
  decided_leads answer Unsatisfiable it = from_leads answer answer.source it
  decided_leads answer Validate it = from_leads answer answer.source it
  decided_leads answer Fetch it = from_leads answer answer.source it

  answer_leads : (answer : Answer) (b : Bool) → BeginsAnswer i answer b p q → Leads p q
  answer_leads answer true is = same_leads is
  answer_leads answer false it = decided_leads answer answer.decision it

  stage_leads : (b : Bool) (t : Stage) → BeginsBy i b t p q → Leads p q
  stage_leads true t is = same_leads is
  stage_leads false Undecided is = same_leads is
  stage_leads false Waiting is = same_leads is
  stage_leads false Passing it = at_leads _ i p p q it (leads_none p)
  stage_leads false (Answering answer) it = answer_leads answer answer.has_begun it

  reply_leads : BeginsReply i p q → Leads p q
  reply_leads it = by (slice_get p.seats.items i) it
    where
      by : (o : Option Seat) → BeginsOf i o p q → Leads p q
      by None is = same_leads is
      by (Some seat) one = stage_leads seat.is_closing seat.stage one

pub replies_lead : (is : List ℕ) (p q : Turn) → BeginsReplies is p q → Leads p q
unfolding BeginsReplies
replies_lead [] p q is = leads_as p p q is (leads_none p)
replies_lead (i ∷ is) p q (mid, one, others) = leads_then p mid q (reply_leads i p mid one) (replies_lead is mid q others)
