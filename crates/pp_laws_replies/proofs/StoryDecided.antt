-- What is decided for a request is a reply of which nothing was said but the interim answer.
use Rattle.std.proofs.Common.{◌≡◌, ◌⊎◌, refl, ℕ, Bool, true, false, ◌==◌, ◌&&◌, not, List, [], ◌∷◌, ◌++◌, map, Option, Some, None, Ok, Err, inl, inr, sym, subst, ap, ◌∙◌, append-nil, le_refl}
use Rattle.pp_ask.specs.declared.kind.AskKind.{AskKind}
use Rattle.pp_head.specs.Request.{Request}
use Rattle.pp_plan.specs.Row.{Row}
use Rattle.pp_reply.specs.Texts.{is_last, page}
use Rattle.pp_target.specs.Key.{Key, text_of}
use Rattle.pp_valid.specs.declared.version.Version.{Version}
use Rattle.pp_world.specs.declared.note.Decision.{Decision}
use Rattle.pp_world.specs.declared.note.Decision.TheVariants.{Refuse, Hit, Part, Head, NotModified, Unsatisfiable, Relay, Validate, Fetch, Pass}
use Rattle.pp_law.specs.Closing.{is_of}
use Rattle.pp_law.specs.Connections.{on_client}
use Rattle.pp_law.specs.Deciding.{first_interim, refused_with, refuse, new_exchange, stage_for, asking_with, ask_for, ask_as, ask_origin, reply_by, answering_with, follow_with, follow_row, follow, relay, is_for_memory, mark_row_of, enter_row, decided_by, decided}
use Rattle.pp_law.specs.Lists.{Bytes}
use Rattle.pp_law.specs.Requests.{Front, Parsed, NoHeadYet, NoHead as NoFront, IsRequest, has_request, key_in, keeps_open, keeps_after, asks_head}
use Rattle.pp_law.specs.Stages.{is_begun, is_page}
use Rattle.pp_law.specs.State.{State, Client, Stage, Undecided, Waiting, Passing, Answering, Reply, Instance, Entry}
use Rattle.pp_law.specs.Table.{is_row_of, row, row_on_disk, row_for, of_instance, of_entry, mark_row, add_row, with_room, enter}
use Rattle.pp_laws.specs.Runs.{IsIn}
use Rattle.pp_laws.proofs.Clients.{enter_row-sound}
use Rattle.pp_laws.proofs.Finds.{no_row, with_room-no_row}
use Rattle.pp_laws.proofs.Lists.{in_find, in_moved, in_push, one_of, the_one}
use Rattle.pp_laws.proofs.Sound.{Since, Sound, facts_of as sound_facts, client_number, instance_id}
use Rattle.pp_laws_replies.specs.ByRow.{is_by_row}
use Rattle.pp_laws_replies.specs.Replies.{interim_to}
use Rattle.pp_laws_replies.proofs.ByRowLemmas.{SpanOf, span_known}
use Rattle.pp_laws_replies.proofs.Effects.{Asks, asks, enters, is_ask, key_of_front}
use Rattle.pp_laws_replies.proofs.HasRows.{HasRow}
use Rattle.pp_laws_replies.proofs.HeardPlaces.{none_left}
use Rattle.pp_laws_replies.proofs.Quiet.{Quiet, Quietly, facts_of, quiet_same}
use Rattle.pp_laws_replies.proofs.QuietAsks.{begin_exchange-quiet, leave-quiet}
use Rattle.pp_laws_replies.proofs.QuietRows.{swept-quiet}
use Rattle.pp_laws_replies.proofs.QuietTurns.{enter_row-quiet}
use Rattle.pp_laws_replies.proofs.Stories.{Follows, Told, read_follows, still_follows, a_page, Chosen, to_pass, to_show, Now, undecided, waiting, chosen, begun, Orderly, decides_orderly, decides_too, order_of, quiet_orderly}
use Rattle.pp_laws_replies.proofs.Usable.{KeyFor, UsedRow}

-- ---- nothing but the interim answer was said

-- it may be decided: it has a request, and is in no reply
pub record IsFree (c : Client) : Type 0 where
  pub has : c.stage ≡ Undecided → has_request c.front ≡ true
  pub off : is_begun c ≡ false

empty_front : (last il : Bytes) → last ++ il ≡ [] → last ≡ []
empty_front [] il is = refl
empty_front (b ∷ last) il is = absurd (cc is)

first_at : (c : Client) (front : Front) (stage : Stage) (last : Bytes) → has_request front ≡ true → last ++ c.interim_left ≡ interim_to front → ((stage ≡ Undecided) → ⊥)
    → last ++ first_interim (record c { front = front; stage = stage }) ≡ interim_to front
first_at c NoHeadYet stage last has is not_yet = absurd (cc has)
first_at c (NoFront status) stage last has is not_yet = ap (λ l. l ++ []) (empty_front last c.interim_left is)
first_at c (IsRequest r) Undecided last has is not_yet = absurd (not_yet refl)
first_at c (IsRequest r) Waiting last has is not_yet = is
first_at c (IsRequest r) Passing last has is not_yet = is
first_at c (IsRequest r) (Answering q) last has is not_yet = is

first_undecided : (c : Client) (front : Front) → first_interim (record c { front = front; stage = Undecided }) ≡ interim_to front
first_undecided c NoHeadYet = refl
first_undecided c (NoFront status) = refl
first_undecided c (IsRequest r) = refl

first_is : (instances : List Instance) (next_instance : ℕ) (decided : Option Decision) (c : Client) (last : Bytes) → IsFree c → Now instances next_instance decided c last → last ++ first_interim c ≡ interim_to c.front
first_is instances next_instance decided c last free (undecided stage none is) = ap (λ l. l ++ first_interim c) is ∙ ap (λ st. first_interim (record c { stage = st })) stage ∙ first_undecided c c.front
first_is instances next_instance decided c last free (waiting (inl stage) has is) = first_at c c.front c.stage last has is (λ un. let both : Undecided ≡ Waiting = sym un ∙ stage in cc both)
first_is instances next_instance decided c last free (waiting (inr stage) has is) = first_at c c.front c.stage last has is (λ un. let both : Undecided ≡ Passing = sym un ∙ stage.0 in cc both)
first_is instances next_instance decided c last free (chosen r stage isnt_on taken has is what) = first_at c c.front c.stage last has is (λ un. let both : Undecided ≡ Answering r = sym un ∙ stage in cc both)
first_is instances next_instance decided c last free (begun r stage is_on taken has head body is rest what) =
    let on : is_begun c ≡ true = ap (λ st. is_begun (record c { stage = st })) stage ∙ is_on in
    let both : true ≡ false = sym on ∙ free.off in absurd (cc both)

has_one : (instances : List Instance) (next_instance : ℕ) (decided : Option Decision) (c : Client) (last : Bytes) → IsFree c → Now instances next_instance decided c last → has_request c.front ≡ true
has_one instances next_instance decided c last free (undecided stage none is) = free.has stage
has_one instances next_instance decided c last free (waiting stage has is) = has
has_one instances next_instance decided c last free (chosen r stage isnt_on taken has is what) = has
has_one instances next_instance decided c last free (begun r stage is_on taken has head body is rest what) = has

-- ---- a page, an ask, a reply that is passed

module _ (instances : List Instance) (next_instance : ℕ) (decided : Option Decision) (c : Client) (last : Bytes) (free : IsFree c) (now : Now instances next_instance decided c last) where
  refused_now : (status : ℕ) → Now instances next_instance (Some (Refuse status)) (refused_with status c) last
  refused_now status =
      begun (record { decision = Refuse status; source = None; has_begun = true; head_left = page status (asks_head c.front) (keeps_after status c.front); at = 0; to = 0 }) refl refl refl (has_one instances next_instance decided c last free now)
      (page status (asks_head c.front) (keeps_after status c.front)) []
      (ap (λ l. l ++ page status (asks_head c.front) (keeps_after status c.front)) (first_is instances next_instance decided c last free now) ∙ sym (append-nil (interim_to c.front ++ page status (asks_head c.front) (keeps_after status c.front))))
      (inl refl) (a_page status refl refl refl refl refl)

  stage_waits : (d : Decision) → (stage_for d ≡ Waiting) ⊎ ((stage_for d ≡ Passing) × (Some d ≡ Some Pass))
  stage_waits Pass = inr (refl, refl)
  stage_waits (Refuse status) = inl refl
  stage_waits (Hit from to) = inl refl
  stage_waits (Part from to) = inl refl
  stage_waits Head = inl refl
  stage_waits NotModified = inl refl
  stage_waits Unsatisfiable = inl refl
  stage_waits Relay = inl refl
  stage_waits Validate = inl refl
  stage_waits Fetch = inl refl

  asking_now : (d : Decision) → Now instances next_instance (Some d) (asking_with d c) last
  asking_now d = waiting (stage_waits d) (has_one instances next_instance decided c last free now) (first_is instances next_instance decided c last free now)

  answering_now : (r : Reply) → r.has_begun ≡ false → Chosen instances next_instance c.front (not (keeps_after 200 c.front)) r → Now instances next_instance (Some r.decision) (answering_with r c) last
  answering_now r off what = chosen r refl off refl (has_one instances next_instance decided c last free now) (first_is instances next_instance decided c last free now) what

-- ---- for the client of that number

refused_follows : (status : ℕ) (c : Client) → Follows (refused_with status c) c
refused_follows status c = read_follows _ c c.body_left refl refl (le_refl c.body_left) refl (none_left c.body_left) refl

asking_follows : (d : Decision) (c : Client) → Follows (asking_with d c) c
asking_follows d c = still_follows _ c refl refl refl refl refl

answering_follows : (r : Reply) (c : Client) → Follows (answering_with r c) c
answering_follows r c = still_follows _ c refl refl refl refl refl

-- one with its number is there, for the same request, and may be changed so
pub record IsDecided (c : Client) (s : State) : Type 0 where
  pub one : Client
  pub there : IsIn one s.clients
  pub number : one.number ≡ c.number
  pub free : (e : Client) → IsIn e s.clients → e.number ≡ c.number → IsFree e
  pub same_front : (e : Client) → IsIn e s.clients → e.number ≡ c.number → e.front ≡ c.front
  pub index : (e : Client) → IsIn e s.clients → e.number ≡ c.number → e.index ≡ c.index

-- this was decided for its request
abbrev pub Decides : ℕ → Told → Client → Decision → State → Type 0
Decides n told c d s = Orderly n (decides_too n c.number c.index d told) s

refuse-orderly : {n : ℕ} {told : Told} (c : Client) (status : ℕ) (s : State) → IsDecided c s → Orderly n told s → Decides n told c (Refuse status) (refuse c status s)
unfolding refuse on_client
refuse-orderly c status s w h =
    quiet_orderly _ _ (swept-quiet _ (leave-quiet (is_of c.number) _ (quiet_same _)))
    (decides_orderly c.number c.index (Refuse status) s (refused_with status) (λ d. refl) (refused_follows status) w.one w.there w.number w.index
    (λ d i same decided last now. refused_now s.instances s.next_instance decided d last (w.free d i same) now status) h)

ask_for-orderly : {n : ℕ} {told : Told} (c : Client) (d : Decision) (head : Request) (key : Key) (kind : AskKind) (s : State) → IsDecided c s → Orderly n told s
    → Decides n told c d (ask_for c d head key kind s)
unfolding ask_for on_client
ask_for-orderly c d head key kind s w h =
    quiet_orderly _ _ (swept-quiet _ (begin_exchange-quiet (new_exchange s c head key d kind) _ (leave-quiet (is_of c.number) _ (quiet_same _))))
    (decides_orderly c.number c.index d s (asking_with d) (λ e. refl) (asking_follows d) w.one w.there w.number w.index
    (λ e i same decided last now. asking_now s.instances s.next_instance decided e last (w.free e i same) now d) h)

ask_origin-orderly : {n : ℕ} {told : Told} (c : Client) (d : Decision) (s : State) → Asks c d s → IsDecided c s → Orderly n told s → Decides n told c d (ask_origin c d s)
unfolding ask_origin ask_as
ask_origin-orderly {n} {told} c d s a w h =
    subst (λ front. Decides n told c d (elim front as (λ y. State) [
      | NoHeadYet ↦ s
      | NoFront status ↦ s
      | IsRequest r ↦ elim r.key as (λ z. State) [ Ok key ↦ ask_as c d r.head key s | Err fault ↦ s ]
    ])) (sym a.front)
    (subst (λ named. Decides n told c d (elim named as (λ z. State) [ Ok key ↦ ask_as c d a.request.head key s | Err fault ↦ s ])) (sym a.names)
    (subst (λ o. Decides n told c d (elim o as (λ z. State) [ None ↦ s | Some kind ↦ ask_for c d a.request.head a.key kind s ])) (sym a.is)
    (ask_for-orderly c d a.request.head a.key a.kind s w h)))

relay-orderly : {n : ℕ} {told : Told} (c : Client) (s : State) → IsDecided c s → Orderly n told s → Decides n told c Relay (relay c s)
unfolding relay on_client
relay-orderly c s w h =
    quiet_orderly _ _ (swept-quiet _ (quiet_same _))
    (decides_orderly c.number c.index Relay s (answering_with (reply_by Relay None)) (λ d. refl) (answering_follows (reply_by Relay None)) w.one w.there w.number w.index
    (λ d i same decided last now. answering_now s.instances s.next_instance decided d last (w.free d i same) now (reply_by Relay None) refl (to_pass refl)) h)

-- ---- a reply by the row

-- the row that the decision is of stands, under this version
pub record IsRowFor (c : Client) (d : Decision) (s : State) : Type 0 where
  pub request : Parsed
  pub asks : c.front ≡ IsRequest request
  pub key : Key
  pub names : key_in c.front ≡ Some key
  pub shows : (x : Instance) → row s (text_of key) ≡ Some x → SpanOf request.head x.version d

-- a reply by the row closes where the request wants it so
kept_open : (b : Bool) → not (b && not (is_last 200)) ≡ not b
kept_open true = refl
kept_open false = refl

follow-orderly : {n : ℕ} {told : Told} {b : Since} (c : Client) (d : Decision) (s : State) → is_by_row d ≡ true → IsDecided c s → IsRowFor c d s → ((key : Key) → key_in c.front ≡ Some key → HasRow (text_of key) s) → Sound b s
    → Orderly n told s → Decides n told c d (follow c d s)
unfolding follow follow_row follow_with on_client
follow-orderly {n} {told} {b} c d s by w f has hs h = subst (λ o. Decides n told c d (elim o as (λ x. State) [ None ↦ s | Some key ↦ follow_row c d (text_of key) s ])) (sym f.names) (at (row s (text_of f.key)) refl)
  where
    at : (o : Option Instance) → row s (text_of f.key) ≡ o → Decides n told c d (elim o as (λ y. State) [ None ↦ s | Some x ↦ follow_with c (reply_by d (Some x.id)) x s ])
    at None found = absurd (has f.key f.names found)
    at (Some x) found =
        quiet_orderly _ _ (swept-quiet _ (leave-quiet _ _ (quiet_same _)))
        (decides_orderly c.number c.index d s (answering_with (reply_by d (Some x.id))) (λ e. refl) (answering_follows (reply_by d (Some x.id))) w.one w.there w.number w.index
        (λ e i same decided last now.
        let there = in_find (is_row_of (text_of f.key)) x s.instances found in
        answering_now s.instances s.next_instance decided e last (w.free e i same) now (reply_by d (Some x.id)) refl
        (to_show f.request (w.same_front e i same ∙ f.asks) (ap (λ g. not (keeps_after 200 g)) (w.same_front e i same ∙ f.asks) ∙ kept_open (keeps_open f.request)) by x.version (f.shows x found) refl refl x.id refl ((sound_facts hs).rows.given x there.0)
        (λ y j id. ap (λ (z : Instance). z.version) (the_one instance_id s.instances y x (sound_facts hs).rows.differ j there.0 id)))) h)

-- ---- the row that comes into memory for it is the one that was seen

-- it has this version
VersionIs : Version → Bytes → State → Type 0
VersionIs v key s = (x : Instance) → IsIn x s.instances → is_row_of key x ≡ true → x.version ≡ v

mark_version : (v : Version) (key : Bytes) (s : State) → VersionIs v key s → VersionIs v key (mark_row_of key s)
unfolding mark_row_of mark_row VersionIs
mark_version v key s is = by (row s key)
  where
    by : (o : Option Instance) → VersionIs v key (elim o as (λ x. State) [ None ↦ s | Some x ↦ mark_row x.id s ])
    by None x i hit = is x i hit
    by (Some y) x i hit = is x (in_moved (λ z. z.id == y.id) x s.instances i) hit

seen_version : {b : Since} (head : Request) (key : Bytes) (known : Row) (s : State) → Sound b s → row_for s head key ≡ Some known → VersionIs known.version key (enter key false s)
unfolding enter add_row VersionIs
seen_version {b} head key known s hs seen = by_row (row s key) refl seen
  where
    by_kept : (o : Option Entry) → row s key ≡ None → row_on_disk s key ≡ o → (elim o as (λ x. Option Row) [ None ↦ None | Some e ↦ Some (of_entry head e) ]) ≡ Some known
        → VersionIs known.version key (elim o as (λ x. State) [ None ↦ s | Some e ↦ add_row key e.version e.fields e.times false (with_room s) ])
    by_kept None none found is x i hit = absurd (cc is)
    by_kept (Some e) none found is x i hit = at (in_push x (with_room s).instances _ i)
      where
        eq : of_entry head e ≡ known
        eq = cc

        at : IsIn x (with_room s).instances ⊎ (x ≡ record { id = (with_room s).next_instance; key = key; version = e.version; fields = e.fields; times = e.times; is_retired = false; is_new = false }) → x.version ≡ known.version
        at (inl j) = absurd (no_row key (with_room s) (with_room-no_row key s none) x j hit)
        at (inr one) = ap (λ (y : Instance). y.version) one ∙ ap (λ (r : Row). r.version) eq

    by_row : (o : Option Instance) → row s key ≡ o
        → (elim o as (λ x. Option Row) [ Some x ↦ Some (of_instance s head x) | None ↦ elim (row_on_disk s key) as (λ y. Option Row) [ None ↦ None | Some e ↦ Some (of_entry head e) ] ]) ≡ Some known
        → VersionIs known.version key (elim o as (λ x. State) [ Some x ↦ s | None ↦ elim (row_on_disk s key) as (λ y. State) [ None ↦ s | Some e ↦ add_row key e.version e.fields e.times false (with_room s) ] ])
    by_row None found is x i hit = by_kept (row_on_disk s key) found refl is x i hit
    by_row (Some y) found is x i hit =
        let there = in_find (is_row_of key) y s.instances found in
        let eq : of_instance s head y ≡ known = cc in
        ap (λ (z : Instance). z.version) (the_one instance_id s.instances x y (sound_facts hs).rows.differ i there.0 ((sound_facts hs).rows.own_keys key x y i there.0 hit there.1)) ∙ ap (λ (r : Row). r.version) eq

entered_version : (c : Client) (d : Decision) (key : Key) (known : Row) (s : State) → is_for_memory d ≡ false → key_in c.front ≡ Some key → VersionIs known.version (text_of key) (enter (text_of key) false s)
    → VersionIs known.version (text_of key) (enter_row c d s)
unfolding enter_row
entered_version c d key known s isnt_on names is =
    subst (λ t. VersionIs known.version (text_of key) (elim t as (λ x. State) [
      | true ↦ s
      | false ↦ elim (key_in c.front) as (λ y. State) [ None ↦ s | Some k ↦ mark_row_of (text_of k) (enter (text_of k) false s) ]
    ])) (sym isnt_on)
    (subst (λ o. VersionIs known.version (text_of key) (elim o as (λ y. State) [ None ↦ s | Some k ↦ mark_row_of (text_of k) (enter (text_of k) false s) ])) (sym names)
    (mark_version known.version (text_of key) (enter (text_of key) false s) is))

no_memory : (d : Decision) → is_by_row d ≡ true → is_for_memory d ≡ false
no_memory (Refuse status) by = absurd (cc by)
no_memory (Hit from to) by = refl
no_memory (Part from to) by = refl
no_memory Head by = refl
no_memory NotModified by = refl
no_memory Unsatisfiable by = refl
no_memory Relay by = refl
no_memory Validate by = refl
no_memory Fetch by = refl
no_memory Pass by = refl

pub row_for_it : {b : Since} (c : Client) (d : Decision) (s : State) → is_by_row d ≡ true → Sound b s → UsedRow s c d → IsRowFor c d (enter_row c d s)
unfolding VersionIs
row_for_it c d s by hs used = record {
  request = used.request;
  asks = used.asks;
  key = used.key;
  names = key_of_front c.front used.request used.key used.asks used.names;
  shows = λ x found.
      let there = in_find (is_row_of (text_of used.key)) x (enter_row c d s).instances found in
      let version = entered_version c d used.key used.row s (no_memory d by) (key_of_front c.front used.request used.key used.asks used.names)
      (seen_version used.request.head (text_of used.key) used.row s hs used.known) x there.0 there.1 in
      subst (λ v. SpanOf used.request.head v d) (sym version) (subst (λ e. SpanOf used.request.head used.row.version e) used.made (span_known used.request.head used.row));
}

-- ---- all

numbered : (cs : List Client) (c : Client) → IsIn c cs → IsIn c.number (map client_number cs)
numbered [] c i = absurd i
numbered (e ∷ cs) c (inl eq) = inl (ap client_number eq)
numbered (e ∷ cs) c (inr i) = inr (numbered cs c i)

among : (cs : List Client) (m : ℕ) → IsIn m (map client_number cs) → (e : Client) × IsIn e cs × (e.number ≡ m)
among [] m i = absurd i
among (e ∷ cs) m (inl eq) = (e, inl refl, sym eq)
among (e ∷ cs) m (inr i) = let rest = among cs m i in (rest.0, inr rest.1, rest.2)

free_on : (d c : Client) → Quiet d c → IsFree c → IsFree d
free_on d c q free = record { has = λ at. ap has_request q.front ∙ free.has (sym q.stage ∙ at); off = ap (λ st. is_begun (record c { stage = st })) q.stage ∙ free.off }

-- what is decided for a client that may be decided
pub decided-orderly : {n : ℕ} {told : Told} {b : Since} (c : Client) (d : Decision) (s : State) → IsIn c s.clients → IsFree c → (is_page d ≡ false → KeyFor s c d) → (is_by_row d ≡ true → UsedRow s c d) → Sound b s → Orderly n told s
    → Decides n told c d (decided c d s)
unfolding decided decided_by
decided-orderly {n} {told} {b} c d s there free keyed used hs h = by d refl
  where
    t : State
    t = enter_row c d s

    quiet : Quietly s t
    quiet = enter_row-quiet c d s (quiet_same s)

    ht : Orderly n told t
    ht = quiet_orderly s t quiet h

    -- the one with its number is as it was
    one : (e : Client) → IsIn e t.clients → e.number ≡ c.number → Quiet e c
    one e i number =
        let f = (facts_of quiet).clients_from e i in
        subst (λ (x : Client). Quiet e x) (one_of client_number s.clients f.was c (order_of h).rise f.there there (sym f.is.number ∙ number)) f.is

    -- and it is there
    stays : (e : Client) × IsIn e t.clients × (e.number ≡ c.number)
    stays = among t.clients c.number (subst (λ ns. IsIn c.number ns) (sym (facts_of quiet).numbers) (numbered s.clients c there))

    w : IsDecided c t
    w = record {
      one = stays.0;
      there = stays.1;
      number = stays.2;
      free = λ e i number. free_on e c (one e i number) free;
      same_front = λ e i number. (one e i number).front;
      index = λ e i number. (one e i number).index;
    }

    the_row : UsedRow s c d → is_by_row d ≡ true → (key : Key) → key_in c.front ≡ Some key → HasRow (text_of key) t
    the_row u by_row key names =
        let its : key_in c.front ≡ Some u.key = key_of_front c.front u.request u.key u.asks u.names in
        let both : Some u.key ≡ Some key = sym its ∙ names in
        let eq : u.key ≡ key = cc in
        subst (λ k. HasRow (text_of k) t) eq (enters c d u.request.head u.key u.row s (no_memory d by_row) its u.known)

    following : is_by_row d ≡ true → Decides n told c d (follow c d t)
    following by_row =
        let u = used by_row in
        follow-orderly c d t by_row w (row_for_it c d s by_row hs u) (λ key names. the_row u by_row key names) (enter_row-sound c d s hs) ht

    followed : (e : Decision) → d ≡ e → is_by_row e ≡ true → Decides n told c d (follow c e t)
    followed e is by_row = subst (λ x. Decides n told c d (follow c x t)) is (following (ap is_by_row is ∙ by_row))

    asked : (e : Decision) → d ≡ e → is_ask e ≡ true → is_page e ≡ false → Decides n told c d (ask_origin c e t)
    asked e is is_asked isnt = subst (λ x. Decides n told c d (ask_origin c x t)) is (ask_origin-orderly c d t (asks c d s (ap is_ask is ∙ is_asked) (keyed (ap is_page is ∙ isnt))) w ht)

    by : (e : Decision) → d ≡ e → Decides n told c d (decided_by c e t)
    by (Refuse status) is = subst (λ x. Decides n told c x (refuse c status t)) (sym is) (refuse-orderly c status t w ht)
    by Pass is = asked Pass is refl refl
    by Fetch is = asked Fetch is refl refl
    by Validate is = asked Validate is refl refl
    by Relay is = subst (λ x. Decides n told c x (relay c t)) (sym is) (relay-orderly c t w ht)
    by (Hit from to) is = followed (Hit from to) is refl
    by (Part from to) is = followed (Part from to) is refl
    by Head is = followed Head is refl
    by NotModified is = followed NotModified is refl
    by Unsatisfiable is = followed Unsatisfiable is refl
