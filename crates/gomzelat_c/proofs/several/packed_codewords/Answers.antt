use Rattle.std.proofs.Common.{◌≡◌, ℕ, List, ◌++◌, flat_map, length, take, subst, sym, ap, ◌∙◌, arith}
use Rattle.std.specs.declared.option.Option.{Option}
use Rattle.std.proofs.lemmas.List.{length-append}
use Rattle.lte_bits.specs.Packing.{packed}
use Rattle.model_sender.specs.CircularBuffer.{FitsIn}
use Rattle.model_sender.specs.Codeword.{codeword}
use Rattle.model_sender.specs.Segmentation.{plan_of}
use Rattle.rate_match.specs.Sendings.{common}
use Rattle.rate_match.specs.declared.sends.Sending.{Sending}
use Rattle.rate_match.proofs.EachSending.{version_at}
use Rattle.block_receive.proofs.UnderWay.{all-at}
use Rattle.gomzelat_c.specs.Tests.{byte_count}
use Rattle.gomzelat_c.proofs.OneByOne.{flat_more, sum_more}
use Rattle.gomzelat_c.proofs.PackedLength.{length_packed}
use Rattle.gomzelat_c.proofs.several.packed_codewords.Goals as goal

pub codeword-requires-clause-fits : goal.codeword-requires-clause-fits
codeword-requires-clause-fits c =
    let sends : List Sending = c.args.sends.now in
    let payload : List ℕ = c.args.payload.now in
    let s : Sending = record { m = c.at-m.result.0; rv = c.at-m.result.1 } in
    let same : s.m.limit ≡ (common sends).limit = all-at (λ (x : Sending). x.m.limit ≡ (common sends).limit) sends c.loop-i.i s c.at-m.ensures.lawful.buffer c.at-m.ensures.value in
    let P : Option ℕ → Type 0 = λ limit. FitsIn limit (plan_of (length payload)).c (plan_of (length payload)).k_plus in
    subst (λ (xs : List ℕ). FitsIn s.m.limit (plan_of (length xs)).c (plan_of (length xs)).k_plus) (sym c.in_ok-coded.ensures) (subst P (sym same) c.requires.fits)

pub codeword-requires-clause-version : goal.codeword-requires-clause-version
codeword-requires-clause-version c =
    let s : Sending = record { m = c.at-m.result.0; rv = c.at-m.result.1 } in
    version_at c.args.sends.now c.loop-i.i s c.at-m.ensures.lawful c.at-m.ensures.value

pub loop-i-preserved : goal.loop-i-preserved
loop-i-preserved c =
    let sends : List Sending = c.args.sends.now in
    let payload : List ℕ = c.args.payload.now in
    let s : Sending = record { m = c.at-m.result.0; rv = c.at-m.result.1 } in
    let f : Sending → List ℕ = λ x. packed (codeword payload x.m x.rv) in
    let own : c.as_slice-in-loop-i.result.now ≡ f s =
    c.as_slice-in-loop-i.ensures ∙ c.in_ok-own.ensures ∙ ap packed (c.as_slice.ensures ∙ c.in_ok-bits.ensures.codeword ∙ ap (λ (xs : List ℕ). codeword xs s.m s.rv) c.in_ok-coded.ensures) in
    let bits_long : length c.as_slice.result.now ≡ s.m.g = ap length c.as_slice.ensures ∙ c.in_ok-bits.ensures.long in
    let long : length c.as_slice-in-loop-i.result.now ≡ byte_count s.m.g =
    ap length (c.as_slice-in-loop-i.ensures ∙ c.in_ok-own.ensures) ∙ length_packed c.as_slice.result.now ∙ ap byte_count bits_long in
    let all = c.in_ok-extend_from_slice.ensures.items in
    record {
      written = all ∙ ap (λ (xs : List ℕ). xs ++ c.as_slice-in-loop-i.result.now) c.loop-i.invariant.written
          ∙ ap (λ (xs : List ℕ). flat_map f (take c.loop-i.i sends) ++ xs) own
          ∙ sym (flat_more f sends c.loop-i.i s c.at-m.ensures.value);
      long = omega (
        arith,
        ap length all,
        length-append c.loop-i.bytes.items c.as_slice-in-loop-i.result.now,
        c.loop-i.invariant.long,
        long,
        sum_more (λ (x : Sending). byte_count x.m.g) sends c.loop-i.i s c.at-m.ensures.value,
      );
    }
