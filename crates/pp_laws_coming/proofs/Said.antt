-- What is heard, said and asked keeps it.
use Rattle.std.proofs.Common.{◌≡◌, refl, ℕ, ◌+◌, ◌-◌, ◌≤◌, Bool, true, false, ◌==◌, nat_le, List, [], ◌∷◌, ◌++◌, drop, length, Option, Some, None, option_and_then, sym, subst, ap, ◌∙◌, le_refl, arith}
use Rattle.pp_pass.specs.Pipe.{without_first}
use Rattle.pp_target.specs.Key.{Key}
use Rattle.pp_text.specs.Bytes.{is_empty}
use Rattle.pp_law.specs.Asking.{asked_body, asked_text, ask, ask_body, ask_next, asking, hang_up, hear, is_being_asked, is_writing, left_in}
use Rattle.pp_law.specs.Connections.{conn, exchange, is_exchange, is_for, is_outstanding, on_client, on_client_of, on_exchange}
use Rattle.pp_law.specs.Hearing.{fronted, heard_by, what_counts}
use Rattle.pp_law.specs.Lists.{Bytes, change, first_some, is_this}
use Rattle.pp_law.specs.Replies.{said_by, said_of, said_of_body}
use Rattle.pp_law.specs.Requests.{Front, NoHeadYet, NoHead, IsRequest, key_in}
use Rattle.pp_law.specs.Stages.{is_passing, on_passed, passed_of}
use Rattle.pp_law.specs.State.{State, Awaited, Brought, Useless, Joins, Passes, TooWide, Client, Conn, Exchange, Passed, Reply, Stage, Undecided, Waiting, Passing, Answering}
use Rattle.pp_laws.specs.Runs.{IsIn}
use Rattle.pp_laws.proofs.Lists.{Changed, changed_at, in_change, in_find, other, same}
use Rattle.pp_laws.proofs.Tests.{number_same, same_number}
use Rattle.pp_laws_turn.proofs.Cases.{each_so, when}
use Rattle.pp_laws_turn.proofs.Clients.{HasPlace}
use Rattle.pp_laws_turn.proofs.Same.{said_by-same}
use Rattle.pp_laws_turn.proofs.View.{Holds, SameClient, facts_of, holds}
use Rattle.pp_laws_coming.specs.Coming.{IsComing, Waits, is_waiting, may_have_ask}
use Rattle.pp_laws_coming.proofs.Alone.{all_told}
use Rattle.pp_laws_coming.proofs.Asks.{as_it_was, same_bound}
use Rattle.pp_laws_coming.proofs.Begun.{front_same, whole_in}
use Rattle.pp_laws_coming.proofs.Clients.{close_client-comes, on_client-comes, on_exchange-comes}
use Rattle.pp_laws_coming.proofs.Ended.{end_replies-comes}
use Rattle.pp_laws_coming.proofs.Facts.{Coming, Early, Facts, IsTold}
use Rattle.pp_laws_coming.proofs.Stays.{Goes, Stays, but_more, clients_but, goes_as, goes_at, goes_on, passed_in, stays_on}

-- ---- what is heard, said and asked

heard_goes : (bytes : Bytes) (c : Client) → Goes (heard_by bytes c) c
heard_goes bytes c = by c.front refl
  where
    was : Client
    was = record c { heard = c.heard ++ what_counts c.front (drop c.skip bytes); skip = c.skip - length bytes }

    by : (front : Front) → c.front ≡ front → Goes (elim front as (λ x. Client) [ NoHeadYet ↦ fronted was | NoHead status ↦ was | IsRequest r ↦ was ]) c
    by NoHeadYet at = goes_at _ c refl (λ key is. (let both : None ≡ Some key = sym (ap key_in at) ∙ is in absurd (cc both))) refl refl (λ key is. (let both : None ≡ Some key = sym (ap key_in at) ∙ is in absurd (cc both)))
    by (NoHead status) at = goes_as _ c refl refl refl refl refl
    by (IsRequest r) at = goes_as _ c refl refl refl refl refl

pub hear-comes : (n : ℕ) (bytes : Bytes) (s : State) → Holds Early s → Holds Early (hear n bytes s)
unfolding hear
hear-comes n bytes s h = end_replies-comes _ (on_client-comes n (heard_by bytes) s (λ c. (heard_goes bytes c).stays.number) (λ c i hit. heard_goes bytes c) h)

pub hang_up-comes : (n : ℕ) (s : State) → Holds Early s → Holds Early (hang_up n s)
unfolding hang_up
hang_up-comes n s h = when (is_writing s.owed n) (close_client-comes n false s h) (end_replies-comes _ (on_client-comes n (λ c. record c { has_hung_up = true }) s (λ c. refl) (λ c i hit. goes_as _ c refl refl refl refl refl) h))

-- bytes of what is passed are said: as much of it is to come
abbrev shorter : ℕ → Passed → Passed
shorter n p = record p { pipe = without_first n p.pipe }

pub passed_goes : (f : Passed → Passed) → ((p : Passed) → (f p).pipe.is_finished ≡ p.pipe.is_finished) → (c : Client) → Goes (on_passed f c) c
passed_goes f ends c = by c.brought refl
  where
    on_it : Brought → Client
    on_it b = elim (elim b as (λ x. Option Passed) [ Awaited ↦ None | Useless ↦ None | Joins id plain ↦ None | Passes p ↦ Some p | TooWide ↦ None ]) as (λ x. Client) [ None ↦ c | Some p ↦ record c { brought = Passes (f p) } ]

    by : (b : Brought) → c.brought ≡ b → Goes (on_it b) c
    by Awaited is = goes_on c
    by Useless is = goes_on c
    by (Joins id plain) is = goes_on c
    by TooWide is = goes_on c
    by (Passes p) is = record {
      stays = record { stands = λ on. on; number = refl; source = λ id at. at; front = λ key at. at; untold = λ none. (let both : None ≡ Some p = sym none ∙ ap passed_in is in absurd (cc both)) };
      waits = λ w. absurd (cc (sym is ∙ w.brought));
      coming = λ more. ends p ∙ sym (ap whole_in is) ∙ more;
      answers = λ off. off;
      left = λ key is. le_refl c.body_left;
    }

-- where something is said of its reply
record Said (d c : Client) : Type 0 where
  untold : passed_of c ≡ None → passed_of d ≡ None
  waits : Waits c → Waits d
  coming : IsComing c → IsComing d
  stands : may_have_ask c.stage ≡ true → may_have_ask d.stage ≡ true
  answers : is_waiting c.stage ≡ false → is_waiting d.stage ≡ false
  left : (key : Key) → key_in c.front ≡ Some key → c.body_left ≤ d.body_left

said_so : (n : ℕ) (c : Client) → Said (said_by n c) c
said_so n c = by (is_empty c.interim_left) c.stage refl
  where
    replies_in : Stage → Option Reply
    replies_in stage = elim stage as (λ y. Option Reply) [ Undecided ↦ None | Waiting ↦ None | Passing ↦ None | Answering r ↦ Some r ]

    body_goes : (m : ℕ) (r : Reply) → (b : Bool) → (is_waiting c.stage ≡ true → ⊥) → (may_have_ask c.stage ≡ true → may_have_ask (Answering r) ≡ true)
        → Said (elim b as (λ x. Client) [ true ↦ on_passed (shorter m) (record c { stage = Answering r }) | false ↦ record c { stage = Answering (record r { at = r.at + m }) } ]) c
    body_goes m r true out stood =
        let g : Goes (on_passed (shorter m) (record c { stage = Answering r })) (record c { stage = Answering r }) = passed_goes (shorter m) (λ p. refl) (record c { stage = Answering r }) in
        record { untold = g.stays.untold; waits = λ w. absurd (out w.stage); coming = g.coming; stands = λ on. g.stays.stands (stood on); answers = λ off. g.answers refl; left = g.left }
    body_goes m r false out stood = record { untold = λ none. none; waits = λ w. absurd (out w.stage); coming = λ is. is; stands = stood; answers = λ off. refl; left = λ key is. le_refl c.body_left }

    reply_goes : (r : Reply) (b : Bool) → (is_waiting c.stage ≡ true → ⊥) → (may_have_ask c.stage ≡ true → may_have_ask (Answering r) ≡ true)
        → Said (elim b as (λ x. Client) [ true ↦ record c { stage = Answering (record r { head_left = drop n r.head_left }) } | false ↦ said_of_body (n - length r.head_left) (record r { head_left = [] }) c ]) c
    reply_goes r true out stood = record { untold = λ none. none; waits = λ w. absurd (out w.stage); coming = λ is. is; stands = stood; answers = λ off. refl; left = λ key is. le_refl c.body_left }
    reply_goes r false out stood = body_goes (n - length r.head_left) (record r { head_left = [] }) (is_passing r.decision) out stood

    as_is : Said c c
    as_is = record { untold = λ none. none; waits = λ w. w; coming = λ is. is; stands = λ on. on; answers = λ off. off; left = λ key is. le_refl c.body_left }

    by : (b : Bool) (stage : Stage) → c.stage ≡ stage
        → Said (elim b as (λ x. Client) [ false ↦ record c { interim_left = drop n c.interim_left } | true ↦ elim (replies_in stage) as (λ x. Client) [ None ↦ c | Some r ↦ said_of n r c ] ]) c
    by false stage is = record { untold = λ none. none; waits = λ w. record { stage = w.stage; brought = w.brought }; coming = λ is. is; stands = λ on. on; answers = λ off. off; left = λ key is. le_refl c.body_left }
    by true Undecided is = as_is
    by true Waiting is = as_is
    by true Passing is = as_is
    by true (Answering r) is = reply_goes r (nat_le n (length r.head_left)) (λ waits. let both : false ≡ true = ap is_waiting (sym is) ∙ waits in cc both) (λ on. ap may_have_ask (sym is) ∙ on)

said_goes : (n : ℕ) (c : Client) → Goes (said_by n c) c
said_goes n c =
    let kept : SameClient (said_by n c) c = said_by-same n c in
    let said : Said (said_by n c) c = said_so n c in
    record { stays = record { number = kept.number; source = kept.source; front = front_same _ c kept; untold = said.untold; stands = said.stands }; waits = said.waits; coming = said.coming; answers = said.answers; left = said.left }

pub say-comes : {late : Bool} → (c n : ℕ) (s : State) → Holds (Coming late) s → Holds (Coming late) (on_client c (said_by n) s)
say-comes c n s h = on_client-comes c (said_by n) s (λ x. (said_goes n x).stays.number) (λ x i hit. said_goes n x) h

-- of what is left of it as much is asked as is sent
ask_body-comes : {late : Bool} → (e : Exchange) (n : ℕ) (s : State) → IsIn e s.exchanges → Holds (Coming late) s → Holds (Coming late) (ask_body e n s)
unfolding ask_body on_client_of on_exchange
ask_body-comes {late} e n s there h = by e.asker refl
  where
    fewer : Exchange → Exchange
    fewer x = record x { body_left = x.body_left - n }

    less : (a b : ℕ) → a - b ≤ a
    less a b = omega arith

    both_less : (a b : ℕ) → a ≤ b → a - n ≤ b - n
    both_less a b le = omega arith

    asked : Holds (Coming late) (on_exchange e.number (λ x. record x { body_left = x.body_left - n }) s)
    asked = on_exchange-comes e.number (λ x. record x { body_left = x.body_left - n }) s (λ x i hit. as_it_was _ x refl refl refl refl refl refl (less x.body_left n) (same_bound _ x refl) (λ was none. was none)) h

    es : List Exchange
    es = change (is_exchange e.number) (λ x. record x { body_left = x.body_left - n }) s.exchanges

    number_by : (c : Client) (t : Bool) → (elim t as (λ x. Client) [ true ↦ asked_body n c | false ↦ c ]).number ≡ c.number
    number_by c true = refl
    number_by c false = refl

    stays_by : (c : Client) (t : Bool) → Stays (elim t as (λ x. Client) [ true ↦ asked_body n c | false ↦ c ]) c
    stays_by c true = record { number = refl; source = λ id is. is; front = λ key is. is; untold = λ none. none; stands = λ is. is }
    stays_by c false = stays_on c

    is_its : (m : ℕ) (o : Option ℕ) → is_this m o ≡ true → o ≡ Some m
    is_its m None is = absurd (cc is)
    is_its m (Some k) is = ap (λ x. Some x) (same_number k m is)

    goes_by : (c : Client) (t : Bool) → is_for e c ≡ t → (e.asker ≡ Some c.number → ⊥) → Goes (elim t as (λ x. Client) [ true ↦ asked_body n c | false ↦ c ]) c
    goes_by c true hit off = absurd (off (is_its c.number e.asker hit))
    goes_by c false isnt off = goes_on c

    but : Facts late e.asker (change (is_for e) (asked_body n) s.clients) es s.next_exchange s.instances s.next_instance
    but = clients_but e.asker (changed_at (is_for e) (asked_body n)) s.clients es s.next_exchange s.instances s.next_instance (λ c. number_by c (is_for e c)) (λ c i. stays_by c (is_for e c)) (λ c i off. goes_by c (is_for e c) refl off) (but_more e.asker s.clients es s.next_exchange s.instances s.next_instance (facts_of asked))

    its : (m : ℕ) → e.asker ≡ Some m → (x : Exchange) (d : Client) → IsIn x es → IsIn d (change (is_for e) (asked_body n) s.clients) → x.asker ≡ Some m → d.number ≡ m → IsTold s.instances x d
    its m asker x d i j asks is = told (in_change (is_exchange e.number) (λ y. record y { body_left = y.body_left - n }) x s.exchanges i) (in_change (is_for e) (asked_body n) d s.clients j)
      where
        told : Changed (is_exchange e.number) (λ y. record y { body_left = y.body_left - n }) s.exchanges x → Changed (is_for e) (asked_body n) s.clients d → IsTold s.instances x d
        told (same k isnt) client =
            let one : x.number ≡ e.number = (facts_of h).one x e m k there asks asker in
            let both : true ≡ false = sym (ap (λ (b : ℕ). b == e.number) one ∙ number_same e.number) ∙ isnt in
            absurd (cc both)
        told (other y k hit eq) (same l isnt) = let both : true ≡ false = sym (ap (is_this d.number) (asker ∙ ap (λ b. Some b) (sym is)) ∙ number_same d.number) ∙ isnt in absurd (cc both)
        told (other y k hit eq) (other c l on shown) =
            let number : c.number ≡ m = ap (λ (z : Client). z.number) (sym shown) ∙ is in
            let before : IsTold s.instances y c = (facts_of h).told y m c k l (ap (λ (z : Exchange). z.asker) (sym eq) ∙ asks) number (λ none. cc none) in
            subst (λ (z : Exchange). IsTold s.instances z d) (sym eq) (subst (λ (z : Client). IsTold s.instances (record y { body_left = y.body_left - n }) z) (sym shown) (record {
              waits = λ fills off. (let w = before.waits fills off in record { stage = w.stage; brought = w.brought });
              untold = before.untold;
              coming = before.coming;
              stands = before.stands;
              fills = before.fills;
              left = both_less y.body_left c.body_left before.left;
              key = before.key;
              bound = λ fills z o follows. (let b = before.bound fills z o (record { stands = follows.stands; source = follows.source }) in record { to = b.to; is = b.is; instance = b.instance });
            }))

    by : (o : Option ℕ) → e.asker ≡ o → Holds (Coming late) (record (on_exchange e.number (λ x. record x { body_left = x.body_left - n }) s) { clients = change (is_for e) (asked_body n) s.clients })
    by None none = holds (clients_but None (changed_at (is_for e) (asked_body n)) s.clients es s.next_exchange s.instances s.next_instance (λ c. number_by c (is_for e c)) (λ c i. stays_by c (is_for e c))
        (λ c i off. goes_by c (is_for e c) refl (λ some. let both : None ≡ Some c.number = sym none ∙ some in cc both)) (facts_of asked))
    by (Some m) some = holds (all_told m (change (is_for e) (asked_body n) s.clients) es s.next_exchange s.instances s.next_instance (λ x d i j asks is. its m some x d i j asks is) (subst (λ o. Facts late o (change (is_for e) (asked_body n) s.clients) es s.next_exchange s.instances s.next_instance) some but))

-- what is asked is there
asking_there : (s : State) (k : ℕ) (e : Exchange) → asking s k ≡ Some e → IsIn e s.exchanges
asking_there s k e is = by (conn s k) is
  where
    left_is : (x : Exchange) (t : Bool) → (elim t as (λ y. Option Exchange) [ true ↦ Some x | false ↦ None ]) ≡ Some e → x ≡ e
    left_is x true at = cc at
    left_is x false at = absurd (cc at)

    one : (o : Option Exchange) (m : ℕ) → exchange s m ≡ o → option_and_then left_in o ≡ Some e → IsIn e s.exchanges
    one None m found at = absurd (cc at)
    one (Some x) m found at = subst (λ (y : Exchange). IsIn y s.exchanges) (left_is x (is_being_asked x) at) (in_find (is_exchange m) x s.exchanges found).0

    first : (ns : List ℕ) → first_some (λ m. option_and_then left_in (exchange s m)) ns ≡ Some e → IsIn e s.exchanges
    first [] at = absurd (cc at)
    first (m ∷ ns) at = each (option_and_then left_in (exchange s m)) refl at (λ rest. first ns rest)
      where
        each : (o : Option Exchange) → option_and_then left_in (exchange s m) ≡ o → (elim o as (λ y. Option Exchange) [ Some x ↦ Some x | None ↦ first_some (λ j. option_and_then left_in (exchange s j)) ns ]) ≡ Some e
            → (first_some (λ j. option_and_then left_in (exchange s j)) ns ≡ Some e → IsIn e s.exchanges) → IsIn e s.exchanges
        each None none rest later = later rest
        each (Some x) some rest later = one (exchange s m) m refl (some ∙ rest)

    by : (o : Option Conn) → (elim o as (λ y. Option Exchange) [ None ↦ None | Some k ↦ first_some (λ m. option_and_then left_in (exchange s m)) k.line ]) ≡ Some e → IsIn e s.exchanges
    by None at = absurd (cc at)
    by (Some k) at = first k.line at

ask_next-comes : {late : Bool} → (e : Exchange) (n : ℕ) (s : State) → HasPlace e.number s.exchanges → IsIn e s.exchanges → Holds (Coming late) s → Holds (Coming late) (ask_next e n s)
unfolding ask_next
ask_next-comes {late} e n s placed there h = by (is_outstanding e)
  where
    by : (t : Bool) → Holds (Coming late) (elim t as (λ c. State) [ false ↦ on_exchange e.number (asked_text n s.clock) s | true ↦ ask_body e n s ])
    by false = on_exchange-comes e.number (asked_text n s.clock) s (λ x i hit. as_it_was _ x refl refl refl refl refl refl (le_refl x.body_left) (same_bound _ x refl) (λ was none. absurd (placed x i (same_number x.number e.number hit) none))) h
    by true = ask_body-comes e n s there h

pub ask-comes : {late : Bool} → (k n : ℕ) (s : State) → ((e : Exchange) → asking s k ≡ Some e → HasPlace e.number s.exchanges) → Holds (Coming late) s → Holds (Coming late) (ask k n s)
unfolding ask
ask-comes k n s placed h = each_so (asking s k) (λ none. h) (λ e is. ask_next-comes e n s (placed e is) (asking_there s k e is) h)
