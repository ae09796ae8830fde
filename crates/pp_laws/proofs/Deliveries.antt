-- The data of a response are put on record, and join the instance that they were sent for.
use Rattle.std.proofs.Common.{◌≡◌, refl, ℕ, zero, suc, ◌+◌, ◌-◌, ◌<◌, ◌≤◌, Bool, true, false, ◌==◌, List, [], ◌∷◌, ◌++◌, length, drop, Option, Some, None, inl, inr, sym, subst, ap, ◌∙◌, length-drop, arith}
use Rattle.pp_framing.specs.Rules.{body_of}
use Rattle.pp_framing.specs.declared.body.BodyRule.TheVariants.{Empty}
use Rattle.pp_framing.specs.declared.body.BodyRule.{BodyRule}
use Rattle.pp_text.specs.Bytes.{is_empty}
use Rattle.pp_valid.specs.declared.version.Version.{Version}
use Rattle.pp_law.specs.Chunks.{joined, note_use}
use Rattle.pp_law.specs.Connections.{is_exchange, on_exchange}
use Rattle.pp_law.specs.Lists.{Bytes}
use Rattle.pp_law.specs.OwnHeads.{key_of, first_offset, sent_as, note_own, note_sent, join, joined_one, moved_on, join_bound}
use Rattle.pp_law.specs.Passing.{pour, poured}
use Rattle.pp_law.specs.Responses.{deliver, payload_of}
use Rattle.pp_law.specs.Stages.{on_passed, bound_of}
use Rattle.pp_law.specs.State.{Joining, State, Sent, Aim, Through, Own, Filling, Answer, Bound, Exchange, Instance}
use Rattle.pp_law.specs.Table.{is_instance, instance, extent_of}
use Rattle.pp_laws.specs.Origin.{AllSent}
use Rattle.pp_laws.specs.Runs.{IsIn}
use Rattle.pp_laws.proofs.Binding.{Behind, Rebinds, behind_told, rebound}
use Rattle.pp_laws.proofs.Callers.{on_passed-same}
use Rattle.pp_laws.proofs.Joins.{HeldOf, joined-given, joined-held}
use Rattle.pp_laws.proofs.Lists.{Changed, in_change, in_find, one_of, other, same}
use Rattle.pp_laws.proofs.Payloads.{payload-grows}
use Rattle.pp_laws.proofs.Rows.{note_use-sound, rechunked}
use Rattle.pp_laws.proofs.Sent.{sent-just, sent-more}
use Rattle.pp_laws.proofs.Sound.{FactsOf, Fitting, Since, Sound, exchange_number, facts_of, is_noted, sound}
use Rattle.pp_laws.proofs.Tests.{number_same, same_number}

-- ---- bytes are put on record

more_sent : (b : Since) (s : State) (part : Sent) → FactsOf b s → FactsOf b (record s { sent = part ∷ s.sent })
more_sent b s part h = record {
  grew = (part ∷ h.grew.0, ap (λ (l : List Sent). part ∷ l) h.grew.1);
  lines = h.lines;
  asks = h.asks;
  rows = h.rows;
  placed = h.placed;
  brings = h.brings;
  keyed = h.keyed;
  callers = h.callers;
  held = λ counts x i c j is. sent-more part s.sent x.key x.version _ c.bytes (h.held counts x i c j is);
}

sent_as-facts : (b : Since) (s : State) (e : Exchange) (at : ℕ) (bytes : Bytes) (v : Option Version) → FactsOf b s → FactsOf b (record s { sent = sent_as e at bytes v s.sent })
sent_as-facts b s e at bytes None h = h
sent_as-facts b s e at bytes (Some v) h = more_sent b s (record { key = key_of e; version = v; at = at; bytes = bytes }) h

-- only what was sent is changed
record OnlySent (b : Since) (s t : State) : Type 0 where
  is_sound : Sound b t
  conns : t.conns ≡ s.conns
  exchanges : t.exchanges ≡ s.exchanges
  instances : t.instances ≡ s.instances

only_sent : {b : Since} (s : State) → Sound b s → OnlySent b s s
only_sent s h = record { is_sound = h; conns = refl; exchanges = refl; instances = refl }

only_sent_when : {b : Since} {s : State} (t : Bool) {x y : State} → OnlySent b s x → OnlySent b s y → OnlySent b s (elim t as (λ c. State) [ true ↦ x | false ↦ y ])
only_sent_when true hx hy = hx
only_sent_when false hx hy = hy

only_sent_aim : {b : Since} {s : State} (a : Aim) {x y : State} {z : Version → ℕ → ℕ → State} → OnlySent b s x → OnlySent b s y → ((v : Version) (from to : ℕ) → OnlySent b s (z v from to))
    → OnlySent b s (elim a as (λ c. State) [ Through ↦ x | Own ↦ y | Filling v from to ↦ z v from to ])
only_sent_aim Through hx hy hz = hx
only_sent_aim Own hx hy hz = hy
only_sent_aim (Filling v from to) hx hy hz = hz v from to

note_own-only : {b : Since} (e : Exchange) (a : Answer) (at : ℕ) (bytes : Bytes) (s : State) → Sound b s → OnlySent b s (note_own e a at bytes s)
unfolding note_own
note_own-only {b} e a at bytes s h =
    only_sent_when (is_empty bytes) (only_sent s h)
    (record { is_sound = sound (sent_as-facts b s e (first_offset a.head + at) bytes a.version (facts_of h)); conns = refl; exchanges = refl; instances = refl })

note_sent-only : {b : Since} (e : Exchange) (a : Answer) (at : ℕ) (bytes : Bytes) (s : State) → Sound b s → OnlySent b s (note_sent e a at bytes s)
unfolding note_sent
note_sent-only e a at bytes s h = only_sent_aim e.aim (only_sent s h) (note_own-only e a at bytes s h) (λ v from to. note_own-only e a at bytes s h)

note_own-sent : (e : Exchange) (a : Answer) (at : ℕ) (bytes : Bytes) (v : Version) (s : State) → a.version ≡ Some v → AllSent (note_own e a at bytes s).sent (key_of e) v (first_offset a.head + at) bytes
unfolding note_own
note_own-sent e a at [] v s version = tt
note_own-sent e a at (x ∷ xs) v s version =
    subst (λ o. AllSent (sent_as e (first_offset a.head + at) (x ∷ xs) o s.sent) (key_of e) v (first_offset a.head + at) (x ∷ xs)) (sym version)
    (sent-just (record { key = key_of e; version = v; at = first_offset a.head + at; bytes = x ∷ xs }) s.sent)

noted_by : (aim : Aim) (s t : State) (key : Bytes) (v : Version) (at : ℕ) (bytes : Bytes) → is_noted aim ≡ true → AllSent t.sent key v at bytes → AllSent (elim aim as (λ c. State) [ Through ↦ s | Own ↦ t | Filling w from to ↦ t ]).sent key v at bytes
noted_by Through s t key v at bytes noted all = absurd (cc noted)
noted_by Own s t key v at bytes noted all = all
noted_by (Filling w from to) s t key v at bytes noted all = all

note_sent-sent : (e : Exchange) (a : Answer) (at : ℕ) (bytes : Bytes) (v : Version) (s : State) → is_noted e.aim ≡ true → a.version ≡ Some v
    → AllSent (note_sent e a at bytes s).sent (key_of e) v (first_offset a.head + at) bytes
unfolding note_sent
note_sent-sent e a at bytes v s noted version = noted_by e.aim s (note_own e a at bytes s) (key_of e) v (first_offset a.head + at) bytes noted (note_own-sent e a at bytes v s version)

-- ---- they join

-- what they join is there
pub joined_there : (none : Bool) (o : Option Instance) (x : Instance) → elim none as (λ t. Option Instance) [ true ↦ None | false ↦ o ] ≡ Some x → o ≡ Some x
joined_there true o x is = absurd (let none : None ≡ Some x = is in cc none)
joined_there false o x is = is

join-only : {b : Since} (to : Bound) (bytes : Bytes) (s : State) → (b.counts_loads ≡ true → (x : Instance) → IsIn x s.instances → x.id ≡ to.instance → AllSent s.sent x.key x.version to.next bytes) → Sound b s → OnlySent b s (join to bytes s)
unfolding join note_use
join-only {b} to bytes s sent h = by (joined_one to bytes s) refl
  where
    facts : FactsOf b s
    facts = facts_of h

    held : (x : Instance) → IsIn x s.instances × (is_instance to.instance x ≡ true) → b.counts_loads ≡ true → (y : Instance) → IsIn y s.instances → HeldOf s.sent y.key y.version y.id (joined x.id (extent_of s x) to.next bytes s.chunks)
    held x there counts y i =
        joined-held s.sent y.key y.version y.id x.id (extent_of s x) to.next bytes s.chunks (λ is. sent counts y i (sym is ∙ same_number x.id to.instance there.1)) (facts.held counts y i)

    by : (found : Option Instance) → joined_one to bytes s ≡ found
        → OnlySent b s (elim found as (λ c. State) [ None ↦ s | Some x ↦ note_use (record s { chunks = joined x.id (extent_of s x) to.next bytes s.chunks }) ])
    by None is = only_sent s h
    by (Some x) is =
        let there = in_find (is_instance to.instance) x s.instances (joined_there (is_empty bytes) (instance s to.instance) x is) in
        record {
          is_sound = note_use-sound _ (sound (rechunked b s (joined x.id (extent_of s x) to.next bytes s.chunks) (joined-given s.next_instance x.id (extent_of s x) to.next bytes s.chunks (facts.rows.given x there.0) facts.rows.chunks_given) (held x there) facts));
          conns = refl;
          exchanges = refl;
          instances = refl;
        }

-- ---- and the span that is to come is shorter

-- what the answer is behind these bytes
abbrev pub behind_bytes : Answer → Bytes → Answer
behind_bytes a bytes = record a { raw = a.raw ++ bytes }

-- the data that they add
abbrev pub added : Answer → Bytes → Bytes
added a bytes = drop (length (payload_of a)) (body_of a.rule (a.raw ++ bytes)).payload

further : (a : Answer) (bytes : Bytes) (to : Bound) (x : Instance) → Fitting a to x → Fitting (behind_bytes a bytes) (record to { next = to.next + length (added a bytes) }) x
further a bytes to x (inl fits) = inl (fits.0, longer fits.1)
  where
    longer : to.next ≡ first_offset a.head + length (payload_of a) → to.next + length (added a bytes) ≡ first_offset a.head + length (body_of a.rule (a.raw ++ bytes)).payload
    longer is =
        let grows : length (payload_of a) ≤ length (body_of a.rule (a.raw ++ bytes)).payload = payload-grows a.rule a.raw bytes in
        let rest : length (added a bytes) ≡ length (body_of a.rule (a.raw ++ bytes)).payload - length (payload_of a) = length-drop (length (payload_of a)) (body_of a.rule (a.raw ++ bytes)).payload in
        omega arith
further a bytes to x (inr empty) = inr empty

-- what it was before
record MovedFrom (n : ℕ) (o : Option Bound) (to : Bound) : Type 0 where
  was : Bound
  there : o ≡ Some was
  is : to ≡ record was { next = was.next + n }

moved_some : (n : ℕ) (o : Option Bound) (to : Bound) → (elim o as (λ c. Option Bound) [ None ↦ None | Some k ↦ Some (record k { next = k.next + n }) ]) ≡ Some to → MovedFrom n o to
moved_some n None to is = absurd (cc is)
moved_some n (Some k) to is = record { was = k; there = refl; is = let e : record k { next = k.next + n } ≡ to = cc in sym e }

moved_number : (n : ℕ) (e : Exchange) → (moved_on n e).number ≡ e.number
moved_number n e = by (bound_of e)
  where
    by : (bound : Option Bound) → (elim bound as (λ c. Exchange) [ None ↦ e | Some k ↦ record e { body = Joining (record k { next = k.next + n }) } ]).number ≡ e.number
    by None = refl
    by (Some k) = refl

moved_bound : (n : ℕ) (e : Exchange) → bound_of (moved_on n e) ≡ (elim (bound_of e) as (λ c. Option Bound) [ None ↦ None | Some k ↦ Some (record k { next = k.next + n }) ])
moved_bound n e = by (bound_of e) refl
  where
    by : (bound : Option Bound) → bound_of e ≡ bound
        → bound_of (elim bound as (λ c. Exchange) [ None ↦ e | Some k ↦ record e { body = Joining (record k { next = k.next + n }) } ]) ≡ (elim bound as (λ c. Option Bound) [ None ↦ None | Some k ↦ Some (record k { next = k.next + n }) ])
    by None is = is
    by (Some k) is = refl

moves : (b : Since) (n : ℕ) (s : State) → FactsOf b s → (d : Exchange) → IsIn d s.exchanges → Rebinds s d (moved_on n d)
moves b n s h d i = by (bound_of d) refl
  where
    by : (bound : Option Bound) → bound_of d ≡ bound → Rebinds s d (elim bound as (λ c. Exchange) [ None ↦ d | Some k ↦ record d { body = Joining (record k { next = k.next + n }) } ])
    by None none = record {
      number = refl;
      key = refl;
      aim = refl;
      place = refl;
      bounds = λ to is. h.asks.bounds d to i is;
      noted = λ to is. h.asks.noted d to i is;
      keyed = λ to x is j id. h.keyed d to x i is j id;
      unplaced = λ nowhere. h.asks.unplaced d i nowhere;
      unheaded = λ isnt. h.asks.unheaded d i isnt;
    }
    by (Some k) some = record {
      number = refl;
      key = refl;
      aim = refl;
      place = refl;
      bounds = λ to is. subst (λ (o : Bound). o.instance < s.next_instance) (to_is to is) (h.asks.bounds d k i some);
      noted = λ to is. h.asks.noted d k i some;
      keyed = λ to x is j id. h.keyed d k x i some j (id ∙ sym (ap (λ (o : Bound). o.instance) (to_is to is)));
      unplaced = λ nowhere. let both : None ≡ Some k = sym (h.asks.unplaced d i nowhere) ∙ some in absurd (cc both);
      unheaded = λ isnt. absurd (cc isnt);
    }
      where
        to_is : (to : Bound) → Some (record k { next = k.next + n }) ≡ Some to → record k { next = k.next + n } ≡ to
        to_is to is = cc is

move_on-behind : {b : Since} (a : Answer) (e : Exchange) (bytes : Bytes) (s : State) → b.excepts ≡ Some e.number → IsIn e s.exchanges
    → ((to : Bound) (x : Instance) → bound_of e ≡ Some to → IsIn x s.instances → x.id ≡ to.instance → Fitting a to x) → Sound b s
    → Behind b (behind_bytes a bytes) e s (on_exchange e.number (moved_on (length (added a bytes))) s)
unfolding on_exchange
move_on-behind {b} a e bytes s apart there fits h = record {
  is_sound = sound (rebound b e.number (moved_on n) s apart (moved_number n) (λ d i is. moves b n s facts d i) facts);
  conns = refl;
  others = λ d i. others_by d (in_change (is_exchange e.number) (moved_on n) d s.exchanges i);
  starts = λ d to x i is some j id. starts_by d to x (in_change (is_exchange e.number) (moved_on n) d s.exchanges i) is some j id;
}
  where
    n : ℕ
    n = length (added a bytes)

    facts : FactsOf b s
    facts = facts_of h

    others_by : (d : Exchange) → Changed (is_exchange e.number) (moved_on n) s.exchanges d → (g : Exchange) × IsIn g s.exchanges × (d.number ≡ g.number) × (¬ (d.number ≡ e.number) → bound_of d ≡ bound_of g)
    others_by d (same i isnt) = (d, i, refl, λ other_one. refl)
    others_by d (other g i hit eq) = (g, i, ap exchange_number eq ∙ moved_number n g, λ other_one. absurd (other_one (ap exchange_number eq ∙ moved_number n g ∙ same_number g.number e.number hit)))

    of_old : (g : Exchange) (to : Bound) (x : Instance) → IsIn g s.exchanges → g.number ≡ e.number → bound_of (moved_on n g) ≡ Some to → IsIn x s.instances → x.id ≡ to.instance → Fitting (behind_bytes a bytes) to x
    of_old g to x i is some j id =
        let m = moved_some n (bound_of g) to (sym (moved_bound n g) ∙ some) in
        let g_is : g ≡ e = one_of exchange_number s.exchanges g e facts.asks.rise i there is in
        subst (λ (o : Bound). Fitting (behind_bytes a bytes) o x) (sym m.is)
        (further a bytes m.was x (fits m.was x (sym (ap bound_of g_is) ∙ m.there) j (id ∙ ap (λ (o : Bound). o.instance) m.is)))

    starts_by : (d : Exchange) (to : Bound) (x : Instance) → Changed (is_exchange e.number) (moved_on n) s.exchanges d → d.number ≡ e.number → bound_of d ≡ Some to → IsIn x s.instances → x.id ≡ to.instance → Fitting (behind_bytes a bytes) to x
    starts_by d to x (same i isnt) is some j id = let both : true ≡ false = sym (number_same e.number) ∙ ap (λ y. y == e.number) (sym is) ∙ isnt in absurd (cc both)
    starts_by d to x (other g i hit eq) is some j id = of_old g to x i (same_number g.number e.number hit) (sym (ap bound_of eq) ∙ some) j id

-- ---- the data of a response go where its exchange is bound

-- from a state of which only what was sent is other
behind_sent : {b : Since} {a : Answer} {e : Exchange} (s t u : State) → OnlySent b s t → Behind b a e t u → Behind b a e s u
behind_sent s t u only p = record {
  is_sound = p.is_sound;
  conns = p.conns ∙ only.conns;
  others = λ d i. let f = p.others d i in (f.0, subst (λ es. IsIn f.0 es) only.exchanges f.1, f.2, f.3);
  starts = p.starts;
}

-- an answer to which the exchange is bound as it tells
abbrev pub IsFitting : Answer → Exchange → State → Type 0
IsFitting a e s = (to : Bound) (x : Instance) → bound_of e ≡ Some to → IsIn x s.instances → x.id ≡ to.instance → Fitting a to x

data_sent : {b : Since} (a : Answer) (e : Exchange) (bytes : Bytes) (s : State) → IsIn e s.exchanges → IsFitting a e s → FactsOf b s → (to : Bound) → bound_of e ≡ Some to → (x : Instance) → IsIn x s.instances → x.id ≡ to.instance
    → AllSent (note_sent e a (length (payload_of a)) (added a bytes) s).sent x.key x.version to.next (added a bytes)
data_sent a e bytes s there fits h to is x i id = by (fits to x is i id)
  where
    at : ℕ
    at = length (payload_of a)

    key : x.key ≡ key_of e
    key = h.keyed e to x there is i id

    by : Fitting a to x → AllSent (note_sent e a at (added a bytes) s).sent x.key x.version to.next (added a bytes)
    by (inl fit) =
        subst (λ k. AllSent (note_sent e a at (added a bytes) s).sent k x.version to.next (added a bytes)) (sym key)
        (subst (λ n. AllSent (note_sent e a at (added a bytes) s).sent (key_of e) x.version n (added a bytes)) (sym fit.1)
        (note_sent-sent e a at (added a bytes) x.version s (h.asks.noted e to there is) fit.0))
    by (inr empty) = none a.rule empty
      where
        nothing : (n : ℕ) → drop n (let l : Bytes = [] in l) ≡ []
        nothing zero = refl
        nothing (suc n) = refl

        none : (rule : BodyRule) → rule ≡ Empty → AllSent (note_sent e a at (added a bytes) s).sent x.key x.version to.next (drop at (body_of rule (a.raw ++ bytes)).payload)
        none rule eq = subst (λ r. AllSent (note_sent e a at (added a bytes) s).sent x.key x.version to.next (drop at (body_of r (a.raw ++ bytes)).payload)) (sym eq)
            (subst (λ l. AllSent (note_sent e a at (added a bytes) s).sent x.key x.version to.next l) (sym (nothing at)) tt)

join_bound-behind : {b : Since} (a : Answer) (e : Exchange) (bytes : Bytes) (s t : State) → b.excepts ≡ Some e.number → IsIn e s.exchanges → IsFitting a e s → OnlySent b s t
    → ((to : Bound) → bound_of e ≡ Some to → (x : Instance) → IsIn x s.instances → x.id ≡ to.instance → AllSent t.sent x.key x.version to.next (added a bytes))
    → Behind b (behind_bytes a bytes) e s (join_bound e (added a bytes) t)
unfolding join_bound
join_bound-behind {b} a e bytes s t apart there fits only sent = by (bound_of e) refl
  where
    t_there : IsIn e t.exchanges
    t_there = subst (λ es. IsIn e es) (sym only.exchanges) there

    by : (bound : Option Bound) → bound_of e ≡ bound → Behind b (behind_bytes a bytes) e s (elim bound as (λ c. State) [ None ↦ t | Some to ↦ on_exchange e.number (moved_on (length (added a bytes))) (join to (added a bytes) t) ])
    by None none = behind_sent s t t only (record {
      is_sound = only.is_sound;
      conns = refl;
      others = λ d i. (d, i, refl, λ other_one. refl);
      starts = λ d to x i is some j id.
          let d_is : d ≡ e = one_of exchange_number t.exchanges d e (facts_of only.is_sound).asks.rise i t_there is in
          let both : None ≡ Some to = sym none ∙ sym (ap bound_of d_is) ∙ some in absurd (cc both);
    })
    by (Some to) is = behind_sent s u _ (record {
      is_sound = joined_only.is_sound;
      conns = joined_only.conns ∙ only.conns;
      exchanges = joined_only.exchanges ∙ only.exchanges;
      instances = joined_only.instances ∙ only.instances;
    }) (move_on-behind a e bytes u apart (subst (λ es. IsIn e es) (sym joined_only.exchanges) t_there) (λ k x bound i id. fits k x bound (subst (λ xs. IsIn x xs) (joined_only.instances ∙ only.instances) i) id) joined_only.is_sound)
      where
        u : State
        u = join to (added a bytes) t

        joined_only : OnlySent b t u
        joined_only = join-only to (added a bytes) t (λ counts x i id. sent to is x (subst (λ xs. IsIn x xs) only.instances i) id) only.is_sound

pub deliver-behind : {b : Since} (a : Answer) (e : Exchange) (bytes : Bytes) (s : State) → b.excepts ≡ Some e.number → IsIn e s.exchanges → IsFitting a e s → Sound b s
    → Behind b (behind_bytes a bytes) e s (deliver e a (length (payload_of a)) (added a bytes) s)
unfolding deliver pour
deliver-behind a e bytes s apart there fits h =
    behind_told (on_passed (λ p. record p { pipe = poured (added a bytes) p.pipe })) s _ (on_passed-same (λ p. record p { pipe = poured (added a bytes) p.pipe }))
    (join_bound-behind a e bytes s _ apart there fits (note_sent-only e a (length (payload_of a)) (added a bytes) s h) (λ to is x i id. data_sent a e bytes s there fits (facts_of h) to is x i id))
