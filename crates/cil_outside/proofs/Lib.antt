mod Counting
mod PutLemmas
mod StandardFacts
