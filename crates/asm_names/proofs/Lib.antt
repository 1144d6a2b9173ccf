mod GuidLemmas
mod StandardFacts
