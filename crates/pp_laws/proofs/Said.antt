-- What is said to a client that is answered from an instance was sent.
use Rattle.std.proofs.Common.{◌≡◌, refl, ℕ, zero, suc, ◌+◌, ◌-◌, ◌*◌, ◌/◌, ◌%◌, nat_lt, nat_le, nat_eq, Bool, true, false, ◌==◌, [], ◌∷◌, ◌++◌, length, take, drop, Option, Some, None, sym, subst, ap, ◌∙◌, div-add-mod', length-drop, arith}
use Rattle.std.specs.List.{starts_with}
use Rattle.pp_text.specs.Bytes.{is_empty}
use Rattle.pp_world.specs.declared.happening.Happening.TheVariants.{Said}
use Rattle.pp_law.specs.Asking.{is_writing}
use Rattle.pp_law.specs.Chunks.{chunk_len, chunk_bytes}
use Rattle.pp_law.specs.Connections.{is_client, client}
use Rattle.pp_law.specs.Lists.{Bytes, is_some_with}
use Rattle.pp_law.specs.Offers.{run_at, piece, passed_part, offer}
use Rattle.pp_law.specs.Permits.{is_permitted, IsPermitted, permits, permits_said, is_said_of}
use Rattle.pp_law.specs.Stages.{is_passing}
use Rattle.pp_law.specs.State.{State, Client, Stage, Answering, Reply, Instance}
use Rattle.pp_law.specs.Table.{is_instance, instance, source_of, Next, next_in}
use Rattle.pp_laws.specs.Origin.{AllSent, HoldsWhatWasSent, SaysWhatWasSent}
use Rattle.pp_laws.specs.Runs.{IsIn}
use Rattle.pp_laws.proofs.Joins.{chunk_bytes-sent}
use Rattle.pp_laws.proofs.Lists.{in_find}
use Rattle.pp_laws.proofs.Sent.{sent-append, sent-drop, sent-take, sent_at}
use Rattle.pp_laws.proofs.Sound.{FactsOf, Follows, Since, passes_in, source_in}
use Rattle.pp_laws.proofs.Tests.{fourth_holds, same_bytes, same_number, second_holds}

-- ---- fronts

take_nothing : (n : ℕ) → take n (let l : Bytes = [] in l) ≡ []
take_nothing zero = refl
take_nothing (suc n) = refl

-- behind a front of what there is, there is nothing of it
drop_front : (n : ℕ) (xs : Bytes) → drop (length xs) (take n xs) ≡ []
drop_front zero xs = drop_none (length xs)
  where
    drop_none : (m : ℕ) → drop m (let l : Bytes = [] in l) ≡ []
    drop_none zero = refl
    drop_none (suc m) = refl
drop_front (suc n) [] = refl
drop_front (suc n) (x ∷ xs) = drop_front n xs

drop_further : (xs ys bytes : Bytes) → drop (length xs) bytes ≡ [] → drop (length (xs ++ ys)) bytes ≡ []
drop_further [] ys bytes is = subst (λ l. drop (length ys) l ≡ []) (sym is) (nothing (length ys))
  where
    nothing : (m : ℕ) → drop m (let l : Bytes = [] in l) ≡ []
    nothing zero = refl
    nothing (suc m) = refl
drop_further (x ∷ xs) ys [] is = refl
drop_further (x ∷ xs) ys (b ∷ bytes) is = drop_further xs ys bytes is

-- ---- what is offered

-- what is offered of a body, where the next byte is of that instance
body_of : State → Bool → Reply → Bytes → Bytes
body_of s closing r passed = elim (is_passing r.decision) [
  | true ↦ passed
  | false ↦ elim (elim closing as (λ c. Option Next) [ true ↦ None | false ↦ next_in s r ]) [ None ↦ [] | Some n ↦ piece s n ]
]

offered_of : State → Bool → Reply → Bytes → Bytes → Bytes
offered_of s closing r passed interim = elim (is_empty interim) [
  | false ↦ interim
  | true ↦ elim r.has_begun [ false ↦ [] | true ↦ r.head_left ++ body_of s closing r passed ]
]

module _ (s : State) (held : HoldsWhatWasSent s) (r : Reply) (x : Instance) (source : source_of s r ≡ Some x) (no_pass : is_passing r.decision ≡ false) where
  source_by : (o : Option ℕ) → (elim o as (λ c. Option Instance) [ None ↦ None | Some id ↦ instance s id ]) ≡ Some x → IsIn x s.instances
  source_by None is = absurd (cc is)
  source_by (Some id) is = (in_find (is_instance id) x s.instances is).0

  there : IsIn x s.instances
  there = source_by r.source source

  -- a run of chunks, the first of them from the offset on
  run_at_sent : (more at : ℕ) → AllSent s.sent x.key x.version at (run_at more x.id at s.chunks)
  run_at_sent zero at = tt
  run_at_sent (suc more) at = sent-append s.sent x.key x.version at (drop (at % chunk_len) bytes) _ front (rest (run_at_sent more ((at / chunk_len + 1) * chunk_len)) (length bytes == chunk_len) refl)
    where
      bytes : Bytes
      bytes = chunk_bytes x.id (at / chunk_len) s.chunks

      front : AllSent s.sent x.key x.version at (drop (at % chunk_len) bytes)
      front = sent_at s.sent x.key x.version (drop (at % chunk_len) bytes) (at / chunk_len * chunk_len + at % chunk_len) at (div-add-mod' at chunk_len)
          (sent-drop s.sent x.key x.version (at / chunk_len * chunk_len) (at % chunk_len) bytes
          (chunk_bytes-sent s.sent x.key x.version x.id (at / chunk_len) s.chunks (λ c i is. held x c there i is)))

      next : (length bytes == chunk_len) ≡ true → (at / chunk_len + 1) * chunk_len ≡ at + length (drop (at % chunk_len) bytes)
      next full =
          let whole : length bytes ≡ chunk_len = same_number (length bytes) chunk_len full in
          let left : length (drop (at % chunk_len) bytes) ≡ length bytes - at % chunk_len = length-drop (at % chunk_len) bytes in
          let parts : at / chunk_len * chunk_len + at % chunk_len ≡ at = div-add-mod' at chunk_len in
          omega arith

      rest : AllSent s.sent x.key x.version ((at / chunk_len + 1) * chunk_len) (run_at more x.id ((at / chunk_len + 1) * chunk_len) s.chunks) → (full : Bool) → (length bytes == chunk_len) ≡ full
          → AllSent s.sent x.key x.version (at + length (drop (at % chunk_len) bytes)) (elim full as (λ c. Bytes) [ true ↦ run_at more x.id ((at / chunk_len + 1) * chunk_len) s.chunks | false ↦ [] ])
      rest behind true is = sent_at s.sent x.key x.version (run_at more x.id ((at / chunk_len + 1) * chunk_len) s.chunks) ((at / chunk_len + 1) * chunk_len) _ (next is) behind
      rest behind false is = tt

  piece_sent : (to : ℕ) → AllSent s.sent x.key x.version r.at (piece s (record { source = x; at = r.at; to = to }))
  piece_sent to = sent-take s.sent x.key x.version r.at (to - r.at) (run_at 16 x.id r.at s.chunks) (run_at_sent 16 r.at)

  next_sent : (follows : Bool) → AllSent s.sent x.key x.version r.at (elim (elim follows as (λ c. Option Next) [ true ↦ Some (record { source = x; at = r.at; to = r.to }) | false ↦ None ]) as (λ c. Bytes) [ None ↦ [] | Some n ↦ piece s n ])
  next_sent true = piece_sent r.to
  next_sent false = tt

  body_sent : (closing : Bool) (passed : Bytes) → AllSent s.sent x.key x.version r.at (body_of s closing r passed)
  unfolding body_of
  body_sent closing passed = subst (λ t. AllSent s.sent x.key x.version r.at (elim t as (λ c. Bytes) [
    | true ↦ passed
    | false ↦ elim (elim closing as (λ c. Option Next) [ true ↦ None | false ↦ next_in s r ]) as (λ c. Bytes) [ None ↦ [] | Some n ↦ piece s n ]
  ])) (sym no_pass) (by closing)
    where
      by : (t : Bool) → AllSent s.sent x.key x.version r.at (elim (elim t as (λ c. Option Next) [ true ↦ None | false ↦ next_in s r ]) as (λ c. Bytes) [ None ↦ [] | Some n ↦ piece s n ])
      by true = tt
      by false = subst (λ o. AllSent s.sent x.key x.version r.at (elim (elim o as (λ c. Option Next) [ None ↦ None | Some y ↦ elim (nat_lt r.at r.to) as (λ c. Option Next) [ true ↦ Some (record { source = y; at = r.at; to = r.to }) | false ↦ None ] ]) as (λ c. Bytes) [ None ↦ [] | Some n ↦ piece s n ]))
          (sym source) (next_sent (nat_lt r.at r.to))

  nothing_left : (bytes : Bytes) → bytes ≡ [] → AllSent s.sent x.key x.version r.at bytes
  nothing_left bytes is = subst (λ l. AllSent s.sent x.key x.version r.at l) (sym is) tt

  front_sent : (interim head bytes : Bytes) (begun closing : Bool) (passed : Bytes)
      → bytes ≡ take (length bytes) (elim (is_empty interim) as (λ c. Bytes) [
        | false ↦ interim
        | true ↦ elim begun as (λ c. Bytes) [ false ↦ [] | true ↦ head ++ body_of s closing r passed ]
      ])
      → AllSent s.sent x.key x.version r.at (drop (length (interim ++ head)) bytes)
  front_sent (i ∷ interim) head bytes begun closing passed is =
      nothing_left _ (drop_further (i ∷ interim) head bytes (ap (drop (length (i ∷ interim))) is ∙ drop_front (length bytes) (i ∷ interim)))
  front_sent [] head bytes false closing passed is = nothing_left _ (ap (drop (length head)) (is ∙ take_nothing (length bytes)) ∙ nothing (length head))
    where
      nothing : (m : ℕ) → drop m (let l : Bytes = [] in l) ≡ []
      nothing zero = refl
      nothing (suc m) = refl
  front_sent [] head bytes true closing passed is =
      subst (λ l. AllSent s.sent x.key x.version r.at l) (sym (ap (drop (length head)) is ∙ behind_head head (body_of s closing r passed) (length bytes)))
      (sent-take s.sent x.key x.version r.at (length bytes - length head) (body_of s closing r passed) (body_sent closing passed))
    where
      behind_head : (front behind : Bytes) (n : ℕ) → drop (length front) (take n (front ++ behind)) ≡ take (n - length front) behind
      behind_head [] behind n = ap (λ m. take m behind) (let e : n ≡ n - 0 = omega arith in e)
      behind_head (h ∷ front) behind zero = ap (λ m. take m behind) (let e : 0 ≡ 0 - suc (length front) = omega arith in e)
      behind_head (h ∷ front) behind (suc n) = behind_head front behind n ∙ ap (λ m. take m behind) (let e : n - length front ≡ suc n - suc (length front) = omega arith in e)

-- ---- what is said

offer_is : (s : State) (c : Client) (r : Reply) → c.stage ≡ Answering r → offer s c ≡ offered_of s c.is_closing r (passed_part c) c.interim_left
unfolding offered_of body_of
offer_is s c r has = ap (λ (stage : Stage). offer s (record c { stage = stage })) has

permitted_by : (s : State) (n offered : ℕ) (bytes : Bytes) (room : Option ℕ) → (elim room as (λ c. Bool) [ Some who ↦ false | None ↦ permits_said s n offered bytes ]) ≡ true → permits_said s n offered bytes ≡ true
permitted_by s n offered bytes (Some who) is = absurd (cc is)
permitted_by s n offered bytes None is = is

permitted : (s : State) (n offered : ℕ) (bytes : Bytes) → IsPermitted s (Said n offered bytes) → permits_said s n offered bytes ≡ true
unfolding is_permitted permits
permitted s n offered bytes is = permitted_by s n offered bytes s.has_made_room is

-- what is said is a front of what is offered
said_front : (s : State) (n offered : ℕ) (bytes : Bytes) (c : Client) → client s n ≡ Some c → IsPermitted s (Said n offered bytes) → bytes ≡ take (length bytes) (offer s c)
said_front s n offered bytes c found is = same_bytes bytes (take (length bytes) (offer s c)) (fourth_holds (nat_le 1 offered) (nat_le (length bytes) offered) (nat_le offered (length (offer s c))) (starts_with nat_eq (offer s c) bytes) fits)
  where
    some : is_some_with (λ x. is_said_of offered bytes (offer s x)) (client s n) ≡ true
    some = second_holds (is_writing s.owed n) (is_some_with (λ x. is_said_of offered bytes (offer s x)) (client s n)) (permitted s n offered bytes is)

    fits : is_said_of offered bytes (offer s c) ≡ true
    fits = subst (λ o. is_some_with (λ x. is_said_of offered bytes (offer s x)) o ≡ true) found some

-- the instance that it is answered from
source_at : (s : State) (o : Option ℕ) (x : Instance) → (elim o as (λ c. Option Instance) [ None ↦ None | Some id ↦ instance s id ]) ≡ Some x → (o ≡ Some x.id) × IsIn x s.instances
source_at s None x is = absurd (cc is)
source_at s (Some id) x is = let there = in_find (is_instance id) x s.instances is in (ap (λ n. Some n) (sym (same_number x.id id there.1)), there.0)

pub says : {b : Since} (s : State) (n offered : ℕ) (bytes : Bytes) → b.counts_loads ≡ true → FactsOf b s → IsPermitted s (Said n offered bytes) → SaysWhatWasSent s n bytes
unfolding offered_of
says s n offered bytes counts h is c r x found has source = record {
  key = w.key;
  names = w.asks;
  was_sent = subst (λ k. AllSent s.sent k x.version r.at (drop (length (c.interim_left ++ r.head_left)) bytes)) (w.same_key x at.1 refl)
      (front_sent s (λ y d i j eq. h.held counts y i d j eq) r x source (sym (ap passes_in has) ∙ w.is_kept) c.interim_left r.head_left bytes r.has_begun c.is_closing (passed_part c)
      (said_front s n offered bytes c found is ∙ ap (take (length bytes)) (offer_is s c r has)));
}
  where
    at : (r.source ≡ Some x.id) × IsIn x s.instances
    at = source_at s r.source x source

    w : Follows c x.id s.instances s.next_instance
    w = h.callers.follows c x.id (in_find (is_client n) c s.clients found).0 (ap source_in has ∙ at.0)
