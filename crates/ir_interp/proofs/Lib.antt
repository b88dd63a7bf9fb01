-- Lemmas on plain lists, lanes, states and runs, which the proofs of the functions share.
mod Partners
mod Pieces
mod Scales
mod Bits
mod Writes
mod Items
mod Steps
mod Edges
mod Alone
mod Known
