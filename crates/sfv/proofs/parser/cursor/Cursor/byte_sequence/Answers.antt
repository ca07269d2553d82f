use Rattle.std.proofs.Common.{◌≡◌, ◌+◌, List, ℕ, length, drop, sym, ◌∙◌, inl, inr, ◌⊎◌, get_or, arith, refl}
use Rattle.std.proofs.lemmas.{List.take_rest, Result.err_from_is_err_and}
use Rattle.sfv_spec.proofs.Marks.{colon}
use Rattle.sfv.proofs.parser.cursor.Cursor.byte_sequence.Goals.{then-end-content-via-then-end-content}
use Rattle.sfv.proofs.parser.cursor.Cursor.byte_sequence.Goals.{then-end-content-via-else-end-content+then-content-end-ne58}
use Rattle.sfv.proofs.parser.cursor.Cursor.byte_sequence.Goals.{then-contains, else-contains}
use Rattle.sfv.proofs.reads.Contents.{runs_of, bytes_read, lone_located, malformed_located, unterminated_located}
use Rattle.sfv.proofs.parser.cursor.Cursor.byte_sequence.Goals as goal

pub returns-then-end-content-clause-read : goal.returns-then-end-content-clause-read
returns-then-end-content-clause-read c =
    let input : List ℕ = c.args.self.now.parser.input.now in
    let start : ℕ = c.args.self.now.index in
    let n : ℕ = c.symbol_run-count.result in
    let p : ℕ = c.padding_run.result in
    let runs = runs_of input start n _ p c.symbol_run-count.ensures c.padding_after.ensures c.padding_run.ensures in
    let found = simp take_rest at c.contains.ensures.value in
    let other : (n + p ≡ length (drop start input))
    ⊎ (get_or (drop start input) (n + p) 0 ≡ colon → ⊥) = elim c.then-end-content.branch [
      | then-end-content-via-then-end-content w ↦ inl (simp take_rest at w.if-end-content.true)
      | then-end-content-via-else-end-content+then-content-end-ne58 w ↦
          inr (simp take_rest at w.if-content-end-ne58.true)
    ] in
    elim c.if-contains.branch [
      | then-contains w ↦ rw (w.result-is, w.at.ensures) (malformed_located input start n p runs other (sym found
          ∙ w.if-contains.true) c.args.self.now.within)
      | else-contains w ↦ rw (w.result-is, w.at-else-contains.ensures)
          (unterminated_located input start n p runs (sym found ∙ w.if-contains.false))
    ]

pub returns-then-count-eq1-clause-read : goal.returns-then-count-eq1-clause-read
returns-then-count-eq1-clause-read c =
    let input : List ℕ = c.args.self.now.parser.input.now in
    let start : ℕ = c.args.self.now.index in
    let n : ℕ = c.symbol_run-count.result in
    let p : ℕ = c.padding_run.result in
    let runs = runs_of input start n _ p c.symbol_run-count.ensures c.padding_after.ensures c.padding_run.ensures in
    let open_end = simp take_rest at c.if-end-content.false in
    let colon = simp take_rest at c.if-content-end-ne58.false in
    rw c.at-then-count-eq1.ensures (lone_located input start n p runs open_end colon c.if-count-eq1.true)

pub returns-in_err-bytes-clause-out_of_memory : goal.returns-in_err-bytes-clause-out_of_memory
returns-in_err-bytes-clause-out_of_memory c =
    let input : List ℕ = c.args.self.now.parser.input.now in
    let start : ℕ = c.args.self.now.index in
    let n : ℕ = c.symbol_run-count.result in
    let p : ℕ = c.padding_run.result in
    let runs = runs_of input start n _ p c.symbol_run-count.ensures c.padding_after.ensures c.padding_run.ensures in
    let open_end = simp take_rest at c.if-end-content.false in
    let colon = simp take_rest at c.if-content-end-ne58.false in
    let r = err_from_is_err_and c.from_residual.result c.from_residual.ensures.1 in
    rw (r.1, (bytes_read input start n p runs open_end colon c.if-count-eq1.false).0) (λ _. refl)

pub returns-clause-read : goal.returns-clause-read
returns-clause-read c =
    let input : List ℕ = c.args.self.now.parser.input.now in
    let start : ℕ = c.args.self.now.index in
    let n : ℕ = c.symbol_run-count.result in
    let p : ℕ = c.padding_run.result in
    let runs = runs_of input start n _ p c.symbol_run-count.ensures c.padding_after.ensures c.padding_run.ensures in
    let open_end = simp take_rest at c.if-end-content.false in
    let colon = simp take_rest at c.if-content-end-ne58.false in
    let value = simp take_rest at c.in_ok-bytes.ensures.bytes in
    let next : start + (n + p) + 1 ≡ start + (n + p + 1) = omega arith in
    (rw (value, ← next) (bytes_read input start n p runs open_end colon c.if-count-eq1.false).0, refl)
