use Rattle.std.proofs.Common.{length}
use Rattle.byte_grammar.proofs.Codecs.{codec_found, codec_kept, codec_only, codec_first}
use Rattle.byte_grammar.proofs.Decoding.{gives_within}
use Rattle.leaf_codec.proofs.blob.Blob.decode.Goals as goal

pub whole_of-requires : goal.whole_of-requires
whole_of-requires g c =
    let bytes = c.args.bytes.now in
    let read = g.Self.Blob.reading bytes in
    let within = c.codec_laws.ensures.within bytes (λ i. (c.type_inv.bytes i).fits) in
    gives_within (λ x. (x.0, x.1.now)) (length bytes) c.front.result read c.front.ensures within

pub returns-clause-found : goal.returns-clause-found
returns-clause-found g c =
    codec_found c.codec_laws.ensures c.args.bytes.now (λ i. (c.type_inv.bytes i).fits) c.whole_of.result
    (c.whole_of.ensures g.Self.Blob.reading c.front.ensures)

pub returns-clause-only : goal.returns-clause-only
returns-clause-only g c format x spelled =
    codec_only c.codec_laws.ensures c.args.bytes.now format x spelled c.whole_of.result
    (c.whole_of.ensures g.Self.Blob.reading c.front.ensures)

pub returns-clause-kept : goal.returns-clause-kept
returns-clause-kept g c =
    codec_kept c.codec_laws.ensures c.args.bytes.now (λ i. (c.type_inv.bytes i).fits) c.whole_of.result
    (c.whole_of.ensures g.Self.Blob.reading c.front.ensures)

pub returns-clause-first : goal.returns-clause-first
returns-clause-first g c =
    codec_first c.codec_laws.ensures c.args.bytes.now (λ i. (c.type_inv.bytes i).fits) c.whole_of.result
    (c.whole_of.ensures g.Self.Blob.reading c.front.ensures)

pub returns-clause-exact : goal.returns-clause-exact
returns-clause-exact g c = c.whole_of.ensures g.Self.Blob.reading c.front.ensures
