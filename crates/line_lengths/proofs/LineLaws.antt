-- Each kind of line stands whole in its buffer: its pieces are put one by one, and they are fewer bytes than it has.
use Prim.Native.Nat.{ℕ, ◌+◌, ◌≤◌}
use mathlib.Core.Bool.{Bool}
use mathlib.Core.List.{List, ◌++◌}
use mathlib.Core.Path.{◌≡◌, refl, ◌∙◌}
use native.Mathlib.Omega.{arith}
use lib.ListN.{length, length-append, length-map}
use Rattle.composition_state.specs.declared.registry.CompositionRegistry.{CompositionRegistry}
use Rattle.input_router.specs.declared.router.PlatformInputRouter.{PlatformInputRouter}
use Rattle.calls.specs.declared.call.Call.{Call}
use Rattle.counter.specs.declared.answer.Answer.{Answer}
use Rattle.counter.specs.declared.step.Counter.{Counter}
use Rattle.counter.specs.Step.{stepped}
use Rattle.answer_numbers.specs.Numbers.{dumped_number}
use Rattle.registry_dump.specs.Registry.{registry_numbers}
use Rattle.router_dump.specs.Router.{router_numbers}
use Rattle.answer_columns.specs.Columns.{column_pieces}
use Rattle.answer_columns.specs.Named.{handle_for, named_pieces}
use Rattle.answer_columns.specs.Pieces.{put_all, entry_pieces}
use Rattle.answer_columns.proofs.ClaimLaws as columns
use Rattle.answer_columns.proofs.PieceLaws.{chain}
use Rattle.answer_more.specs.More.{more_of}
use Rattle.answer_line.specs.Line.{answer_taken, head_pieces, plain_pieces, no_call_pieces, state_taken, router_state_taken, end_pieces}
use Rattle.answer_words.specs.Answers.{answer_numbers, shown_numbers, answer_words}
use Rattle.answer_words.proofs.FitLaws.{fits}
use Rattle.answer_words.proofs.SizeLaws.{front_size}
use Rattle.line_lengths.specs.Claims.{Whole, LineLengthClaims}
use Rattle.line_lengths.specs.Lengths.{StateLengths}
use Rattle.line_lengths.specs.Texts.{dumped_pieces, more_pieces, answer_pieces, state_pieces, router_state_pieces}
use Rattle.line_lengths.proofs.DumpLaws.{registry_few, router_few}
use Rattle.line_lengths.proofs.PieceLaws.{more_put, dump_put}
use Rattle.line_lengths.proofs.SizeLaws.{size, size_append, dump_size, columns_size, named_size, more_size}
use Rattle.line_lengths.proofs.SizeLaws.{head_size, plain_size, no_call_size, end_size}

-- columns of at most 419,819 bytes, and an end of at most 43
whole : (taken : List ℕ → List ℕ × ℕ) (pieces : List (List ℕ)) (k : Counter) (shown : Bool)
    → ((buf : List ℕ) → taken buf ≡ put_all pieces (buf, 0)) → size pieces ≤ 419819 → Whole taken pieces k shown
whole taken pieces k shown put few buf room =
    chain pieces (end_pieces k shown) (buf, 0) refl (put buf)
    ∙ (columns.claims).whole_text (pieces ++ end_pieces k shown) buf
    (omega (arith, size_append pieces (end_pieces k shown), end_size k shown))

-- ---- an answer of `step`: its words are at most 4,608, and each is at most 22 bytes of the line
module _ (calls : ℕ) (call : Call) (a : Answer) (k : Counter) where
  answer_put : (buf : List ℕ) → answer_taken calls call a k buf ≡ put_all (answer_pieces calls call a k) (buf, 0)
  answer_put buf =
      let own = column_pieces calls k.registry.revision a in
      let named = named_pieces (handle_for call a) in
      let more = more_pieces (more_of call a k) in
      chain (own ++ named) more (buf, 0) (more_put (more_of call a k) _) (chain own named (buf, 0) refl refl)

  answer_size : length (answer_words call a k) ≤ 4608 → size (answer_pieces calls call a k) ≤ 101286
  unfolding answer_words
  answer_size few =
      let own = answer_numbers k.registry.revision a (handle_for call a) in
      let more = shown_numbers (more_of call a k) in
      let words : length (answer_words call a k) ≡ length own + length more =
      length-map (own ++ more) dumped_number ∙ length-append own more in
      simp size_append
      (omega (
        arith,
        front_size k.registry.revision a (handle_for call a),
        columns_size calls k.registry.revision a,
        simp size_append at (named_size (handle_for call a)),
        more_size (more_of call a k),
      ))

-- ---- the dumps
module _ (calls : ℕ) where
  state_put : (r : CompositionRegistry) (buf : List ℕ) → state_taken calls r buf ≡ put_all (state_pieces calls r) (buf, 0)
  state_put r buf =
      chain (head_pieces calls 0 r.revision) (entry_pieces dumped_pieces (registry_numbers r)) (buf, 0) (dump_put (registry_numbers r) _) refl

  router_put : (revision : ℕ) (t : PlatformInputRouter) (buf : List ℕ)
      → router_state_taken calls revision t buf ≡ put_all (router_state_pieces calls revision t) (buf, 0)
  router_put revision t buf =
      chain (head_pieces calls 0 revision) (entry_pieces dumped_pieces (router_numbers t)) (buf, 0) (dump_put (router_numbers t) _) refl

  state_size : (k : Counter) → StateLengths k → size (state_pieces calls k.registry) ≤ 419819
  state_size k x =
      let r = k.registry in
      let dump = entry_pieces dumped_pieces (registry_numbers r) in
      omega (arith, size_append (head_pieces calls 0 r.revision) dump, head_size calls 0 r.revision, dump_size (registry_numbers r), registry_few k x)

  router_size_lem : (k : Counter) → StateLengths k → (revision : ℕ) → size (router_state_pieces calls revision k.router) ≤ 42533
  router_size_lem k x revision =
      let t = k.router in
      let dump = entry_pieces dumped_pieces (router_numbers t) in
      omega (arith, size_append (head_pieces calls 0 revision) dump, head_size calls 0 revision, dump_size (router_numbers t), router_few k x)

pub claims : LineLengthClaims
claims = record {
  answered = λ k x call l calls shown.
      let s = stepped k call l in
      whole (answer_taken calls call s.answer s.counter) (answer_pieces calls call s.answer s.counter) s.counter shown
      (answer_put calls call s.answer s.counter)
      (omega (arith, answer_size calls call s.answer s.counter (fits k x.answered call l)));
  plain = λ k calls number revision shown.
      whole _ (plain_pieces calls number revision) k shown (λ buf. refl) (omega (arith, plain_size calls number revision));
  no_call = λ k calls revision shown.
      whole _ (no_call_pieces calls revision) k shown (λ buf. refl) (omega (arith, no_call_size calls revision));
  state = λ k x calls shown.
      whole (state_taken calls k.registry) (state_pieces calls k.registry) k shown (state_put calls k.registry) (state_size calls k x);
  router_state = λ k x calls revision shown.
      whole (router_state_taken calls revision k.router) (router_state_pieces calls revision k.router) k shown
      (router_put calls revision k.router) (omega (arith, router_size_lem calls k x revision));
}
