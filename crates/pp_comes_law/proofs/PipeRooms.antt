-- Amid a read of an origin the pipe of whoever a response is passed to has room for what is still to come: where the read begins as read_room says;
-- behind a head nothing stands there; and behind a piece of a body nothing is left, or its response is whole.
use Rattle.std.proofs.Common.{◌≡◌, ◌⊎◌, ◌≤◌, ◌<◌, refl, sym, subst, ap, ◌∙◌, ℕ, zero, suc, ◌-◌, nat_le, min, Bool, true, false, cond, find, length, List, [], ◌∷◌, Option, Some, None, inl, inr, le_refl, le_trans, zero-le, arith}
use Rattle.std.specs.Prelude.{option_map}
use Rattle.std.proofs.Math.Nat.{min-le_right}
use Rattle.std.proofs.lemmas.Bool.Decides.{nat_tests}
use Rattle.pp_bodies_law.specs.Bytes.{FindsPipe, FitsIn}
use Rattle.pp_law.specs.Asking.{is_read, pipe_room, read_limit, read_room, room_for}
use Rattle.pp_law.specs.Connections.{conn, front_of_line, is_client, is_conn, is_exchange, is_for, on_conn}
use Rattle.pp_law.specs.Lists.{Bytes, first_some, is_some_with}
use Rattle.pp_law.specs.Responses.{body_piece, head_came, with_unread}
use Rattle.pp_law.specs.Stages.{is_headed, passed_of}
use Rattle.pp_law.specs.State.{State, Answer, Client, Conn, Exchange, Passed}
use Rattle.pp_laws.proofs.Lists.{in_find, one_of}
use Rattle.pp_laws.proofs.Sound.{conn_number, facts_of as sound_facts}
use Rattle.pp_laws.proofs.Tests.{number_same, same_number, second_holds}
use Rattle.pp_laws.specs.Runs.{IsIn}
use Rattle.pp_laws_coming.proofs.Facts.{IsTold}
use Rattle.pp_laws_left.proofs.Owned.{asker_of, for_asker}
use Rattle.pp_laws_pool.proofs.PoolFacts.{GoesOn}
use Rattle.pp_laws_pool.proofs.View.{Holds as Has}
use Rattle.pp_laws_turn.proofs.View.{facts_of}
use Rattle.pp_origins.specs.Gots.{Both}
use Rattle.pp_pass.specs.Pipe.{Pipe, room_of}
use Rattle.pp_reads_law.proofs.Fronts.{IsFront, is_front}
use Rattle.pp_reads_law.specs.Brings.{IsBehindHead, IsBehindPiece, IsMoment}
use Rattle.pp_reads_law.specs.Pieces.{data_in}
use Rattle.pp_states_law.specs.Charges.{IsFor}
use Rattle.pp_store.specs.Kept.{KeptMap}
use Rattle.pp_comes_law.proofs.AtMoments.{Goes, goes_at, goes_first, owes_read}
use Rattle.pp_comes_law.proofs.GotPieces.{body_fewer, going_of}
use Rattle.pp_comes_law.proofs.HeadMoments.{IsSameBut, quiet, same_but}
use Rattle.pp_comes_law.proofs.MarkReads.{data_weigh}
use Rattle.pp_comes_law.proofs.PipeHeads.{Ends, Quiet, Stood, Was, head_ends, head_stood, in_line, none_under_way, piece_ends, quiet_there, set_quiet, set_stood, stood_there, whose}
use Rattle.pp_comes_law.proofs.RoomReads.{few_bytes}
use Rattle.pp_comes_law.specs.Bare.{AreBare}
use Rattle.pp_comes_law.specs.Pipes.{PipesHaveRoom}

-- where a response is under way, its client has room for these bytes
abbrev pub HasRoom : Bytes → Client → Type 0
HasRoom bytes c = (p : Passed) → passed_of c ≡ Some p → length bytes ≤ room_of p.pipe

abbrev pub HasPipes : ℕ → State → Bytes → Type 0
HasPipes n s bytes = (k : Conn) (a : Answer) (e : Exchange) → conn s n ≡ Some k → k.answer ≡ Some a → front_of_line s k ≡ Some e → IsFor s e (HasRoom bytes)

-- ---- where the read begins

within_room : (most : ℕ) (bytes : Bytes) → is_read most bytes ≡ true → length bytes ≤ most
within_room most bytes is = by (min-le_right 32768 most) (second_holds (nat_le 1 (length bytes)) (nat_le (length bytes) (min 32768 most)) is)
  where
    by : min 32768 most ≤ most → nat_le (length bytes) (min 32768 most) ≡ true → length bytes ≤ most
    by le some = grind (arith, nat_tests)

module _ (i : ℕ) (e : Exchange) (p : Passed) (asks : e.asker ≡ Some i) where
  its : (d : Client) → d.number ≡ i → is_for e d ≡ true
  its d number = for_asker e d (asks ∙ ap (λ (j : ℕ). Some j) (sym number))

  not_its : (d : Client) → is_client i d ≡ false → is_for e d ≡ false
  not_its d off = by (is_for e d) refl
    where
      one : (j : ℕ) → e.asker ≡ Some j → j ≡ i
      one j is = let both : Some j ≡ Some i = sym is ∙ asks in cc both

      by : (b : Bool) → is_for e d ≡ b → b ≡ false
      by false is = refl
      by true is = let both : true ≡ false = sym (ap (λ (j : ℕ). is_client j d) (sym (one d.number (asker_of d.number e.asker is))) ∙ number_same d.number) ∙ off in absurd (cc both)

  room_by : (d : Client) (b : Bool) → is_for e d ≡ b → pipe_room e d ≡ (elim b as (λ t. Option ℕ) [ false ↦ None | true ↦ option_map (λ q. room_of q.pipe) (passed_of d) ])
  room_by d b is = ap (λ (t : Bool). elim t as (λ u. Option ℕ) [ false ↦ None | true ↦ option_map (λ q. room_of q.pipe) (passed_of d) ]) is

  -- the first of that number is the one
  room_found : (cs : List Client) (c : Client) → find (is_client i) cs ≡ Some c → passed_of c ≡ Some p → first_some (pipe_room e) cs ≡ Some (room_of p.pipe)
  room_found [] c found is = absurd (cc found)
  room_found (d ∷ ds) c found is = by (is_client i d) refl found (λ at. room_found ds c at is)
    where
      then : Option ℕ → Option ℕ
      then o = elim o as (λ t. Option ℕ) [ Some y ↦ Some y | None ↦ first_some (pipe_room e) ds ]

      by : (b : Bool) → is_client i d ≡ b → cond b (Some d) (find (is_client i) ds) ≡ Some c → (find (is_client i) ds ≡ Some c → first_some (pipe_room e) ds ≡ Some (room_of p.pipe)) → first_some (pipe_room e) (d ∷ ds) ≡ Some (room_of p.pipe)
      by true hit at later =
          let same : d ≡ c = cc at in
          ap then (room_by d true (its d (same_number d.number i hit)) ∙ ap (λ (o : Option Passed). option_map (λ q. room_of q.pipe) o) (ap (λ (z : Client). passed_of z) same ∙ is))
      by false off at later = ap then (room_by d false (not_its d off)) ∙ later at

pub pipes_first : (n : ℕ) (s : State) (all : Bytes) → is_read (read_room s n) all ≡ true → HasPipes n s all
pipes_first n s all read k a e on has front i c asks found p is = subst (λ (m : ℕ). length all ≤ m) room (within_room (read_room s n) all read)
  where
    room : read_room s n ≡ room_of p.pipe
    room =
        ap (λ (o : Option Conn). elim o as (λ t. ℕ) [ None ↦ 0 | Some j ↦ elim (front_of_line s j) as (λ t. ℕ) [ None ↦ read_limit | Some d ↦ room_for s d ] ]) on
        ∙ ap (λ (o : Option Exchange). elim o as (λ t. ℕ) [ None ↦ read_limit | Some d ↦ room_for s d ]) front
        ∙ ap (λ (o : Option ℕ). elim o as (λ t. ℕ) [ None ↦ read_limit | Some m ↦ m ]) (room_found i e p asks s.clients c found is)

-- ---- behind a head

bare_room : (pipe : Pipe) (bytes : Bytes) → pipe.bytes ≡ [] → length bytes ≤ 32768 → length bytes ≤ room_of pipe
bare_room pipe bytes bare few = by pipe.is_coded
  where
    none : length pipe.bytes ≡ 0
    none = ap (λ (bs : Bytes). length bs) bare

    by : (b : Bool) → length bytes ≤ (elim b as (λ t. ℕ) [ true ↦ 65536 - length pipe.bytes - 13 | false ↦ 65536 - length pipe.bytes ])
    by true = omega (arith, few, none)
    by false = omega (arith, few, none)

none_number : (m : ℕ) → None ≡ Some m → ⊥
none_number m both = cc both

-- the head came to one that was in the line, without a head as each there: its client was passed nothing
behind_head : (name : Bytes) (shelf : KeptMap) (n : ℕ) (x w : Both) (s u : State) (bytes more : Bytes) → Goes ⊥ u → length bytes ≤ 32768 → IsBehindHead name shelf n w u more x s bytes → HasPipes n s bytes
behind_head name shelf n x w s u bytes more g few it k a e on has front i c asks found p is = by (head_ends n i it.there.before it.it.head it.there.then numbered quiet_then bare)
  where
    was : IsSameBut u it.there.then n it.there.before
    was = same_but shelf n w u it.number it.conn it.exchange it.there

    numbered : it.there.before.number ≡ n
    numbered = same_number it.there.before.number n (in_find (is_conn n) it.there.before it.there.then.conns it.there.due.due.on.there).1

    none : was.was.answer ≡ None
    none = quiet shelf n w u it.number it.conn it.exchange it.there g.owned

    only : (j : Conn) → IsIn j u.conns → j.number ≡ n → j ≡ was.was
    only j l number = one_of conn_number u.conns j was.was (sound_facts g.sound).lines.rise l was.here (number ∙ sym was.number)

    cleared : (P : State → Type 0) → P u → P (on_conn n (with_unread []) u) → P it.there.then
    cleared P at set = here it.there.stands
      where
        here : ((it.there.before ≡ it.conn) × (it.there.then ≡ u)) ⊎ ((it.there.before ≡ with_unread [] it.conn) × (it.there.then ≡ on_conn n (with_unread []) u)) → P it.there.then
        here (inl same) = subst P (sym same.1) at
        here (inr same) = subst P (sym same.1) set

    quiet_then : Has (Quiet n) it.there.then
    quiet_then =
        let before : Has (Quiet n) u = quiet_there n u (λ j l number. ap (λ (d : Conn). d.answer) (only j l number) ∙ none) in
        cleared (λ t. Has (Quiet n) t) before (set_quiet n n (with_unread []) u (λ j. refl) (λ j. refl) before)

    stood : Has (Stood n was.was.line u.exchanges) s
    stood =
        let before : Has (Stood n was.was.line u.exchanges) u = stood_there n was.was.line u (λ j l number m lined. subst (λ (d : Conn). IsIn m d.line) (only j l number) lined) in
        subst (λ (t : State). Has (Stood n was.was.line u.exchanges) t) (sym it.state)
        (head_stood n was.was.line u.exchanges it.there.before it.it.head it.there.then (cleared (λ t. Has (Stood n was.was.line u.exchanges) t) before (set_stood n (with_unread []) u (λ j. refl) (λ j. refl) before)))

    there : IsIn k s.conns × (is_conn n k ≡ true)
    there = in_find (is_conn n) k s.conns on

    first : IsFront s k e
    first = is_front s k e front

    its_client : IsIn c s.clients × (is_client i c ≡ true)
    its_client = in_find (is_client i) c s.clients found

    asked : Was u.exchanges e i
    asked = whose stood e i (in_find (is_exchange e.number) e s.exchanges first.known).0 asks

    lined : IsIn asked.was.number was.was.line
    lined = subst (λ (m : ℕ). IsIn m was.was.line) (sym asked.number) (in_line stood k there.0 (same_number k.number n there.1) e.number (subst (λ (ns : List ℕ). IsIn e.number ns) (sym first.line) (inl refl)))

    unheaded : is_headed asked.was ≡ false
    unheaded = at (is_headed asked.was) refl
      where
        at : (b : Bool) → is_headed asked.was ≡ b → b ≡ false
        at false off = refl
        at true headed = absurd (((facts_of g.owned).behind was.was asked.was was.here asked.there lined headed).1 none)

    untold : (d : Client) → IsIn d u.clients → d.number ≡ i → passed_of d ≡ None
    untold d l number = ((facts_of g.early).told asked.was i d asked.there l asked.asker number (λ off. none_number i off)).untold unheaded

    bare : AreBare i it.there.then
    bare = record { bare = λ d l number q passed. absurd (none_passed q (sym (untold d (subst (λ (cs : List Client). IsIn d cs) was.clients l) number) ∙ passed)) }
      where
        none_passed : (q : Passed) → None ≡ Some q → ⊥
        none_passed q both = cc both

    none_answers : None ≡ Some a → ⊥
    none_answers both = cc both

    by : Ends n i (head_came it.there.before it.it.head it.there.then) → length bytes ≤ room_of p.pipe
    by (inl over) = absurd (none_answers (sym (none_under_way (subst (λ (t : State). Has (Quiet n) t) (sym it.state) over) k there.0 (same_number k.number n there.1)) ∙ has))
    by (inr all) = bare_room p.pipe bytes ((subst (λ (t : State). AreBare i t) (sym it.state) all).bare c its_client.0 (same_number c.number i its_client.1) p is) few

-- ---- behind a piece of a body

behind_piece : (name : Bytes) (shelf : KeptMap) (n : ℕ) (x w : Both) (s u : State) (bytes more : Bytes) → IsBehindPiece name shelf n w u more x s bytes → HasPipes n s bytes
behind_piece name shelf n x w s u bytes more it k a e on has front i c asks found p is = by (piece_ends n it.conn it.answer more u (same_number it.conn.number n (in_find (is_conn n) it.conn u.conns it.within.on.may.there).1))
  where
    there : IsIn k s.conns × (is_conn n k ≡ true)
    there = in_find (is_conn n) k s.conns on

    none_answers : None ≡ Some a → ⊥
    none_answers both = cc both

    by : ((body_piece it.conn it.answer more u).rest ≡ []) ⊎ Has (Quiet n) (body_piece it.conn it.answer more u).state → length bytes ≤ room_of p.pipe
    by (inl none) = subst (λ (bs : Bytes). length bs ≤ room_of p.pipe) (sym (it.left ∙ none)) zero-le
    by (inr over) = absurd (none_answers (sym (none_under_way (subst (λ (t : State). Has (Quiet n) t) (sym it.state) over) k there.0 (same_number k.number n there.1)) ∙ has))

-- ---- at each moment

module _ (name : Bytes) (shelf : KeptMap) (n : ℕ) (begins : Both) (from : State) (all : Bytes) (goes : (pieces : ℕ) (x : Both) (s : State) (bytes : Bytes) → IsMoment pieces name shelf n begins from all x s bytes → Goes ⊥ s) where
  -- fewer than came
  fewer : (x w : Both) (s u : State) (bytes more : Bytes) → Goes ⊥ u → IsBehindHead name shelf n w u more x s bytes ⊎ IsBehindPiece name shelf n w u more x s bytes → length bytes < length more
  fewer x w s u bytes more g (inl it) = subst (λ (bs : Bytes). length bs < length more) (sym it.left) it.it.fewer
  fewer x w s u bytes more g (inr it) =
      subst (λ (bs : Bytes). length bs < length more) (sym it.left)
      (subst (λ (bs : Bytes). length (body_piece it.conn it.answer bs u).rest < length bs) (sym it.some)
      (body_fewer it.conn it.answer it.first it.others u (going_of u g.comes it.conn it.answer (in_find (is_conn n) it.conn u.conns it.within.on.may.there).0 it.within.on.answer)))

  left_few : (pieces : ℕ) (x : Both) (s : State) (bytes : Bytes) → IsMoment pieces name shelf n begins from all x s bytes → length bytes ≤ length all
  unfolding IsMoment
  left_few zero x s bytes is = subst (λ (bs : Bytes). length bs ≤ length all) (sym is.2) (le_refl (length all))
  left_few (suc pieces) x s bytes is = let less = fewer x is.0 s is.1 bytes is.2 (goes pieces is.0 is.1 is.2 is.3) is.4 in let before = left_few pieces is.0 is.1 is.2 is.3 in omega (arith, less, before)

  behind_it : (pieces : ℕ) (x w : Both) (s u : State) (bytes more : Bytes) → IsMoment pieces name shelf n begins from all w u more → length bytes ≤ 32768 → IsBehindHead name shelf n w u more x s bytes ⊎ IsBehindPiece name shelf n w u more x s bytes → HasPipes n s bytes
  behind_it pieces x w s u bytes more is few (inl it) = behind_head name shelf n x w s u bytes more (goes pieces w u more is) few it
  behind_it pieces x w s u bytes more is few (inr it) = behind_piece name shelf n x w s u bytes more it

  pub pipes_at : (pieces : ℕ) (x : Both) (s : State) (bytes : Bytes) → is_read (read_room from n) all ≡ true → IsMoment pieces name shelf n begins from all x s bytes → HasPipes n s bytes
  unfolding IsMoment
  pipes_at zero x s bytes read is = subst (λ (t : State). HasPipes n t bytes) (sym is.1) (subst (λ (bs : Bytes). HasPipes n from bs) (sym is.2) (pipes_first n from all read))
  pipes_at (suc pieces) x s bytes read is = behind_it pieces x is.0 s is.1 bytes is.2 is.3 (le_trans (left_few (suc pieces) x s bytes is) (few_bytes (read_room from n) all read)) is.4

-- ---- so there is room for the data of each piece

-- no more than the bytes that came
data_few : (a : Answer) (bytes : Bytes) → GoesOn a → length (data_in a bytes) ≤ length bytes
data_few a bytes going = let all = data_weigh a bytes going in omega (arith, all)

pub pipes_fit : (n : ℕ) (s : State) (bytes : Bytes) → Goes ⊥ s → HasPipes n s bytes → (k : Conn) (a : Answer) (e : Exchange) → conn s n ≡ Some k → k.answer ≡ Some a → front_of_line s k ≡ Some e → IsFor s e (FindsPipe (data_in a bytes))
pipes_fit n s bytes g room k a e on has front i c asks found = by (passed_of c) refl
  where
    its_client : IsIn c s.clients × (is_client i c ≡ true)
    its_client = in_find (is_client i) c s.clients found

    told : IsTold s.instances e c
    told = (facts_of g.early).told e i c (in_find (is_exchange e.number) e s.exchanges (is_front s k e front).known).0 its_client.0 asks (same_number c.number i its_client.1) (λ off. none_number i off)

    by : (o : Option Passed) → passed_of c ≡ o → FitsIn (data_in a bytes) o
    by None is = tt
    by (Some p) is = (
      ap (λ (o : Option Passed). is_some_with (λ q. q.pipe.is_finished) o) (sym is) ∙ told.coming,
      le_trans (data_few a bytes (going_of s g.comes k a (in_find (is_conn n) k s.conns on).0 has)) (room k a e on has front i c asks found p is),
    )

pub pipes_have_room : PipesHaveRoom
pipes_have_room terms log pieces name shelf n begins x from s all bytes obeys at reading read is k a e on has front =
    pipes_fit n s bytes (goes pieces x s bytes is) (pipes_at name shelf n begins from all goes pieces x s bytes read is) k a e on has front
  where
    goes : (q : ℕ) (w : Both) (u : State) (more : Bytes) → IsMoment q name shelf n begins from all w u more → Goes ⊥ u
    goes q w u more i = goes_at name shelf n begins from all q w u more (owes_read from n reading) (goes_first terms from log obeys at) i
