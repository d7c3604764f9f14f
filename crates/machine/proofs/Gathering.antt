-- A message sent to an idle key: the first packet meets the table's last row, each later one the row of the expected number, and what
-- the buffer holds after k packets is `gathered`, which the round trip says is the message.
use Prim.Native.Nat.{ℕ, zero, suc, ◌+◌, ◌^◌, ◌≤◌, ◌<◌}
use mathlib.Core.Path.{◌≡◌, refl, ap, ◌∙◌}
use mathlib.Core.Bool.{true}
use mathlib.Core.Option.{none}
use mathlib.Core.List.{List, ◌++◌}
use native.Mathlib.Numerals.{add-one}
use native.Mathlib.Omega.{arith}
use lib.ListN.{length, take, drop, length-drop, length-append}
use lib.Seq.{take_at, length-take-le}
use borrow.Author.Tests.{eq-eqb, lt-ltb, le-ltb}
use Rattle.wire.specs.declared.Channel.{Channel}
use Rattle.wire.specs.Cutting.{cut, put}
use Rattle.wire.specs.Packet.{packet_size, first_room, later_room, longest, msg, cbor, packets, first_payload, later_payload}
use Rattle.wire.specs.Roundtrip.{gathered, header_size}
use Rattle.wire.proofs.Packets.{at_most_129, at_least_1, starts_within}
use Rattle.wire.proofs.Roundtrips.{roundtrip, put_length}
use Rattle.wire.proofs.Readings.{puts_its_part, reads_channel, reads_opening, reads_command, reads_length, reads_number, reads_continuation}
use Rattle.state.specs.declared.Phase.{Phase}
use Rattle.state.specs.Phases.{Gathering}
use Rattle.state.specs.declared.Work.{Work}
use Rattle.state.specs.declared.State.{State}
use Rattle.rows.specs.Table.{◌⇒◌else◌}
use Rattle.state.specs.Order.{gathering_time, in_order}
use Rattle.state.specs.Answers.{Quiet, now, within}
use Rattle.state.proofs.Ordered.{count_in_order, Message}
use Rattle.state.proofs.Making.{not_init, not_cancel, gathering_made, state_made}
use Rattle.table.specs.Opening.{opening_rows, standing_of}
use Rattle.machine.specs.Machine.{packet, Turn, quiet, beside, completed, taken, carried_out, opening, continuing, packet_rows, lent, rows, step}
use Rattle.machine.specs.Run.{logged, run, sends, quiet_until, ends_in}
use Rattle.machine.specs.Theorems.{Sending, Gathered, CommandGathered, ApduGathered}
use Rattle.table.proofs.Verdicts.{good_length}
use Rattle.machine.proofs.Steps.{step_rows}
use Rattle.machine.proofs.Completed.{completed_now}
use Rattle.machine.proofs.Replies.{below_broadcast, not_broadcast}

-- ---- what a call does that is lent enough

lent_enough : (p : List ℕ) (space size : ℕ) → length p ≡ packet_size → packet_size ≤ space → longest ≤ size → lent (packet p space) size ≡ 0
unfolding lent ◌⇒◌else◌
lent_enough p space size a b c = rw (eq-eqb (length p) packet_size a, le-ltb space packet_size b, le-ltb size longest c)

taken_step : (s : State) (m p : List ℕ) (space : ℕ) → in_order s ≡ true → length p ≡ packet_size → packet_size ≤ space → longest ≤ length m
    → step s m (packet p space) ≡ packet_rows s m p
unfolding rows
taken_step s m p space o a b c = step_rows s m (packet p space) o (lent_enough p space (length m) a b c)

-- ---- a payload that is taken: what the work was doing and what stands behind the payload do not matter

taken_as : (w : Work) (f : Phase) (h : Channel) (command n k left : ℕ) (payload payload' m : List ℕ)
    → put first_room later_room n k payload m ≡ put first_room later_room n k payload' m
    → taken (now w f) h command n k left payload m ≡ taken w h command n k left payload' m
unfolding taken
taken_as w f h command n k left payload payload' m e = rw (e, completed_now w f h command n (put first_room later_room n k payload' m))

taken_more : (w : Work) (h : Channel) (command n k left : ℕ) (payload m : List ℕ) → suc k < packets n
    → taken w h command n k left payload m ≡ quiet (now w (Gathering h command n (suc k) left)) (put first_room later_room n k payload m)
unfolding taken ◌⇒◌else◌
taken_more w h command n k left payload m l = rw (lt-ltb (suc k) (packets n) l)

taken_last : (w : Work) (h : Channel) (command n k left : ℕ) (payload m : List ℕ) → packets n ≡ suc k
    → taken w h command n k left payload m ≡ completed w h command n (put first_room later_room n k payload m)
unfolding taken ◌⇒◌else◌
taken_last w h command n k left payload m l = rw (le-ltb (suc k) (packets n) (omega arith))

module _ (s : State) (c : Channel) (command n : ℕ) (src m : List ℕ) (p : ℕ → List ℕ) (space : ℕ → ℕ) (q : Sending s c command n src m p space) where
  -- the message buffer after i packets, and the state while more are to come
  abbrev held : ℕ → List ℕ
  held i = gathered first_room later_room n src m i

  abbrev gathering : ℕ → State
  gathering i = within s (Gathering c command n i gathering_time)

  fits : c.0 < 2 ^ 32
  fits = omega (arith, below_broadcast s c q.order q.channel)

  size : n ≤ longest
  size = good_length command n q.size

  held_length : (i : ℕ) → i ≤ packets n → length (held i) ≡ length m
  unfolding gathered
  held_length zero h = refl
  held_length (suc i) h =
      let l = held_length i (omega arith) in
      put_length first_room later_room n i (cut first_room later_room n i src) (held i) (starts_within n i h) (omega (arith, l, size, q.message)) ∙ l

  gathering_order : (i : ℕ) → suc i < packets n → in_order (gathering (suc i)) ≡ true
  gathering_order i h =
      let message : Message s.given c command n (suc i) = record { is_known = q.channel; size = size; more = h; opens = q.opens } in
      state_made s.given (gathering (suc i)).work (count_in_order s q.order)
      (gathering_made (record { message = message; begun = omega arith; some_left = omega arith; at_most = omega arith }))

  -- ---- the rows that the packets meet

  first_row : packet_rows s m (p 0) ≡ beside s.given (taken s.work c command n 0 gathering_time (first_payload (p 0)) m)
  unfolding packet_rows opening opening_rows standing_of carried_out ◌⇒◌else◌
  first_row =
      let b = q.packet 0 (at_least_1 n) in
      let channel = reads_channel c command n 0 src (p 0) b fits in
      let named = reads_command c command n src (p 0) b in
      let sized = reads_length c command n src (p 0) b (omega (arith, size)) in
      rw (
        reads_opening c command n src (p 0) b,
        channel,
        named,
        sized,
        q.idle,
        not_broadcast s c q.order q.channel,
        q.channel,
        not_cancel command q.opens,
        not_init command q.opens,
        q.opens,
        q.size,
      )
      (rw (channel, named, sized))

  later_row : (i : ℕ) (m' : List ℕ) → suc i < packets n
      → packet_rows (gathering (suc i)) m' (p (suc i))
      ≡ beside s.given (taken (gathering (suc i)).work c command n (suc i) gathering_time (later_payload (p (suc i))) m')
  unfolding packet_rows continuing ◌⇒◌else◌
  later_row i m' h =
      let b = q.packet (suc i) h in
      let few : i < 128 = omega (arith, at_most_129 n size) in
      rw (
        reads_continuation c command n i src (p (suc i)) b few,
        reads_channel c command n (suc i) src (p (suc i)) b fits,
        eq-eqb c.0 c.0 refl,
        reads_number c command n i src (p (suc i)) b,
        eq-eqb (i + 1) (suc i) (add-one i),
      )

  -- ---- what comes of packet i

  part : ℕ → Turn Work
  part i = taken s.work c command n i gathering_time (cut first_room later_room n i src) (held i)

  first_step : step s m (packet (p 0) (space 0)) ≡ beside s.given (part 0)
  unfolding part gathered header_size
  first_step =
      let b = q.packet 0 (at_least_1 n) in
      let same = puts_its_part c command n 0 src (p 0) b q.bytes m in
      taken_step s m (p 0) (space 0) q.order b.size (q.reply 0 (at_least_1 n)) q.message
      ∙ first_row
      ∙ ap (beside s.given) (taken_as s.work s.work.phase c command n 0 gathering_time _ _ m same)

  later_step : (i : ℕ) → suc i < packets n
      → step (gathering (suc i)) (held (suc i)) (packet (p (suc i)) (space (suc i))) ≡ beside s.given (part (suc i))
  unfolding part header_size
  later_step i h =
      let b = q.packet (suc i) h in
      let long : longest ≤ length (held (suc i)) = omega (arith, held_length (suc i) (omega arith), q.message) in
      let same = puts_its_part c command n (suc i) src (p (suc i)) b q.bytes (held (suc i)) in
      taken_step (gathering (suc i)) (held (suc i)) (p (suc i)) (space (suc i)) (gathering_order i h) b.size (q.reply (suc i) h) long
      ∙ later_row i (held (suc i)) h
      ∙ ap (beside s.given) (taken_as s.work (gathering (suc i)).work.phase c command n (suc i) gathering_time _ _ (held (suc i)) same)

  more : (i : ℕ) → suc i < packets n → beside s.given (part i) ≡ quiet (gathering (suc i)) (held (suc i))
  unfolding part gathered
  more i h = ap (beside s.given) (taken_more s.work c command n i gathering_time (cut first_room later_room n i src) (held i) h)

  -- the message is complete
  last : Turn State
  last = beside s.given (completed s.work c command n (take n src ++ drop n m))

  complete : (i : ℕ) → packets n ≡ suc i → beside s.given (part i) ≡ last
  unfolding part last gathered packets
  complete i h =
      ap (beside s.given) (taken_last s.work c command n i gathering_time (cut first_room later_room n i src) (held i) h
      ∙ ap (completed s.work c command n) (rw h at (roundtrip first_room later_room n src m (omega arith) q.bytes)))

  -- ---- the packets from suc i on, and all of them

  rest : (i j : ℕ) → packets n ≡ suc i + suc j
      → run (gathering (suc i)) (held (suc i)) (sends p space (suc i) (suc j)) ≡ ends_in last (sends p space (suc i) (suc j))
  unfolding run sends quiet_until
  rest i zero h = rw (later_step i (omega arith) ∙ complete (suc i) (omega arith))
  rest i (suc j) h =
      rw (later_step i (omega arith) ∙ more (suc i) (omega arith))
      (ap (logged (record { event = packet (p (suc i)) (space (suc i)); answer = Quiet; reply = none })) (rest (suc i) j (omega arith)))

  all_of : (count : ℕ) → packets n ≡ count → run s m (sends p space 0 count) ≡ ends_in last (sends p space 0 count)
  unfolding run sends quiet_until
  all_of zero h = absurd (omega (arith, at_least_1 n))
  all_of (suc zero) h = rw (first_step ∙ complete 0 h)
  all_of (suc (suc j)) h =
      rw (first_step ∙ more 0 (omega arith))
      (ap (logged (record { event = packet (p 0) (space 0); answer = Quiet; reply = none })) (rest 0 j (omega arith)))

-- then the buffer is as long as it was, and the message sent stands at its front
pub stored_length : {s : State} {c : Channel} {command n : ℕ} {src m : List ℕ} {p : ℕ → List ℕ} {space : ℕ → ℕ}
    → Sending s c command n src m p space → length (take n src ++ drop n m) ≡ length m
stored_length {command = command} {n = n} {src = src} q =
    let l = length-take-le n src q.bytes in
    let k = good_length command n q.size in
    simp (length-append, length-drop) (omega (arith, l, k, q.message))

pub stored_front : {s : State} {c : Channel} {command n : ℕ} {src m : List ℕ} {p : ℕ → List ℕ} {space : ℕ → ℕ}
    → Sending s c command n src m p space → take n (take n src ++ drop n m) ≡ take n src
stored_front {n = n} {src = src} {m = m} q = take_at (take n src) (drop n m) n (length-take-le n src q.bytes)

pub gathered_whole : Gathered
unfolding last
gathered_whole s c command n src m p space q = all_of s c command n src m p space q (packets n) refl

pub command_gathered : CommandGathered
unfolding completed ◌⇒◌else◌
command_gathered s c n src m p space q = rw (stored_front q) at (gathered_whole s c cbor n src m p space q)

pub apdu_gathered : ApduGathered
unfolding completed ◌⇒◌else◌
apdu_gathered s c n src m p space q = rw (stored_front q) at (gathered_whole s c msg n src m p space q)
